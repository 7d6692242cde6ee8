use Rattle.msg_function.specs.Functions.{answered}
use Rattle.msg_function.proofs.Uses.{types_read}
use Rattle.msg_function.proofs.function_system.FunctionSystemSystemOf.read_type.Goals as goal

pub returns : goal.returns
returns g c =
    let self = c.args.self.now in
    record { type_read = rw c.type_at.ensures.type_there (rw c.as_slice.ensures.items (types_read self.reads self.writes (answered self.outbox) c.args.op)) }
