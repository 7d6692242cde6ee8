use Rattle.std.proofs.Common.{arith}
use Rattle.msg_world.specs.Prelude.{OfResource, OfType}
use Rattle.msg_world.proofs.Worlds.{none_home, taken_back}
use Rattle.msg_world.proofs.world.World.take_back.Goals as goal

pub move_home-requires : goal.move_home-requires
move_home-requires g c =
    let apart = rw (← c.taken.view_is, ← c.self.view_is, c.in-Some.is) at c.requires.apart in
    rw c.deref_mut.ensures.value (record { free = record { number = apart.size.types; free = λ k. apart.out (OfType k) } })

pub move_home-requires-in-Some : goal.move_home-requires-in-Some
move_home-requires-in-Some g c =
    let apart = rw (← c.taken.view_is, ← c.self.view_is, c.in-Some.is) at c.requires.apart in
    rw (c.deref_mut-in-Some.ensures.value, c.deref_mut.ensures.value)
    (record { free = record { number = apart.size.resources; free = λ k. apart.out (OfResource k) } })

pub invariant_of-self : goal.invariant_of-self
invariant_of-self g c = rw (c.move_home.ensures.home.len, c.move_home-in-Some.ensures.home.len) c.self.invariant

pub returns-in-Some : goal.returns-in-Some
returns-in-Some g c =
    let types = rw c.deref_mut.ensures.value at c.move_home.ensures.home in
    let resources = rw (c.deref_mut-in-Some.ensures.value, c.deref_mut.ensures.value) at c.move_home-in-Some.ensures.home in
    rw (← c.taken.view_is, ← c.self.view_is, c.in-Some.is, c.keep.ensures.same)
    (record { home = taken_back _ _ _ types resources (grind arith) })

pub returns-in_default : goal.returns-in_default
returns-in_default g c =
    rw (← c.taken.view_is, ← c.self.view_is, c.in_default.is)
    (record { home = taken_back _ _ _ (none_home _ _) (none_home _ _) (grind arith) })
