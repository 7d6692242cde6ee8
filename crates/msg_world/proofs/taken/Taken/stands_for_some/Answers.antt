use Rattle.std.proofs.Common.{None, refl, replicate}
use Rattle.msg_buffer.specs.Prelude.{empty}
use Rattle.msg_world.proofs.{PartsMove.equal_items, Worlds.some_state}
use Rattle.msg_world.proofs.taken.Taken.stands_for_some.Goals as goal

pub returns-in-Some : goal.returns-in-Some
returns-in-Some g c = record {
  state = some_state c.args.self.now _ c.deref-in-Some.result.now c.self.view_is
      (rw (c.in-Some.is, ← c.deref.ensures, ← c.behind-moved.view_is) c.deref-in-Some.ensures.value)
      c.each_stands.ensures.histories;
}

pub returns-in_default : goal.returns-in_default
returns-in_default g c = record {
  state = some_state c.args.self.now _ (replicate c.self.inside.types None) c.self.view_is
      (rw c.in_default.is refl) (λ t lt. (empty 0, rw equal_items tt));
}
