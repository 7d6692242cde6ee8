use Rattle.std.proofs.Common.{arith}
use Rattle.msg_exec.proofs.builder.EngineBuilder.add_system.Goals as goal

pub returns-clause-added : goal.returns-clause-added
returns-clause-added g c = grind (
  arith,
  c.self.view_is,
  c.in-Ok.ensures.items,
  c.in-Ok-push.ensures.items,
  c.in_ok-reserve.ensures.items,
  c.in_ok-reserve-2.ensures.items,
  c.from_vec.ensures.items,
)
