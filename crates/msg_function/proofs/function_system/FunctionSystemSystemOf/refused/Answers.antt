use Rattle.std.proofs.Common.{◌≡◌, ◌+◌, ◌<◌, ◌++◌, ◌∙◌, ap, arith, length, map, sym}
use Rattle.msg_system.specs.Prelude.{refused_in}
use Rattle.msg_function.specs.Functions.{answered, read_op, written_ops}
use Rattle.msg_function.proofs.Written.{refused_behind_reads, refused_of_reads}
use Rattle.msg_function.proofs.function_system.FunctionSystemSystemOf.refused.Goals as goal

pub returns-in_err-place : goal.returns-in_err-place
returns-in_err-place g c =
    let self = c.args.self.now in
    let lt : c.args.op < length self.reads = omega (arith, rw c.as_slice.ensures.items at c.in_err-place.ensures) in
    record { refused = c.from_residual.ensures ∙ sym (refused_of_reads self.reads _ c.args.op c.args.reply.now lt) }

pub returns : goal.returns
returns g c =
    let self = c.args.self.now in let place = c.in_ok-place.place in
    let ops = written_ops self.writes (answered self.outbox) in
    let at : length self.reads + place ≡ c.args.op = omega (arith, rw c.as_slice.ensures.items at c.in_ok-place.ensures) in
    record {
      refused = rw c.as_slice-2.ensures.items at c.refused_at.ensures.refused
          ∙ sym (refused_behind_reads self.reads ops place c.args.reply.now)
          ∙ ap (λ k. refused_in (map read_op self.reads ++ ops) k c.args.reply.now) at;
    }
