-- A first state is sound, and there each reader that has joined has new accounts.
use Rattle.std.proofs.Common.{List, arith, ℕ}
use Rattle.std.proofs.lemmas.{Bool.Decides.eqb_tells, Bool.Decides.nat_tests, List.get_or_past}
use Rattle.msg_order.specs.declared.rule.Rule.{Rule}
use Rattle.msg_world.specs.Prelude.{Values, WorldState}
use Rattle.msg_system.specs.Prelude.{Meaning}
use Rattle.msg_frames.specs.Prelude.{AreNew, IsSoundState, NoCycle, Place, State, UsesParts, before_joining, counts, first_state}
use Rattle.msg_frames.proofs.{BeforeTurns.begun_within, StatesStaySound.balanced_start, SystemsStay.joined_is, SystemsStay.joining_on_keeps, SystemsStay.no_cycle_stays, SystemsStay.uses_stay}

module _ {V : Type 0} {values : Values V} (systems : List (Meaning V)) (places : List (Place V)) (rules : List Rule) (types resources : ℕ) (world : WorldState values)
    (new : AreNew systems places rules types resources world) where
  abbrev all_wait : State values
  all_wait = before_joining systems places rules types resources world

  pub first_is_sound : IsSoundState (first_state systems places rules types resources world)
  first_is_sound =
      let began = λ (i t : ℕ). balanced_start (all_wait.members i) (counts all_wait) t in
      let uses : UsesParts (first_state systems places rules types resources world) =
      uses_stay all_wait _ (joining_on_keeps 1 all_wait) new.uses in
      let free : NoCycle (first_state systems places rules types resources world) =
      no_cycle_stays all_wait _ (joining_on_keeps 1 all_wait) new.no_cycle in
      let joined = joined_is (first_state systems places rules types resources world) in
      grind (arith, uses, free, new, joined, get_or_past, begun_within all_wait, eqb_tells, nat_tests, began)
