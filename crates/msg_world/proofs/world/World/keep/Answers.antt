use Rattle.std.proofs.{Common.length, lemmas.List.Elements.All-push}
use Rattle.msg_world.specs.inner.Taken.{IsSpare}
use Rattle.msg_world.proofs.world.World.keep.Goals as goal

pub invariant_of-self : goal.invariant_of-self
invariant_of-self g c =
    let i = c.self.invariant in let world = c.self.inside in
    rw c.push_reserved.ensures.items (
      i.0,
      i.1,
      All-push (λ b. IsSpare (length world.types.items) (length world.resources.items) b.value) _ _ i.2
          (rw (← c.self.view_is) at c.requires.spare),
    )
