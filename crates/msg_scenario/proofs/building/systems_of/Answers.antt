use Rattle.std.proofs.Common.{◌≡◌, Some, length, refl, rules, slice_get, ℤ}
use Rattle.std.proofs.lemmas.Option.{slice_get_read}
use Rattle.msg_system.specs.Prelude.{Meaning, cursor_places, new_system, of_program}
use Rattle.msg_system.specs.declared.scripted.Scripted.{Scripted}
use Rattle.msg_exec.proofs.ItemsOfLists.{each_pushed}
use Rattle.msg_scenario.specs.Prelude.{IsSystemAt}
use Rattle.msg_scenario.proofs.EngineIsMade.{is_system_at}
use Rattle.msg_scenario.proofs.building.systems_of.Goals as goal

pub loop-spec-preserved : goal.loop-spec-preserved
loop-spec-preserved c =
    let m : Scripted ℤ → Meaning ℤ = λ s. of_program s.program s.writer (cursor_places s.cursors) in
    let specs = c.as_slice-specs.result.now in
    let systems = c.loop-spec.systems.items in
    let one = c.in_ok-system_of.field-0 in
    let spec = c.spec-item.result in
    let next : slice_get specs (length systems) ≡ Some spec = rw c.loop-spec.invariant.as_many
    (slice_get_read specs _ c.loop-spec.spec-index spec refl c.loop-spec-test.true c.spec-item.is) in
    let its : m one ≡ new_system spec.program (length systems) = search rules in
    record {
      as_many = search rules;
      each = rw c.in_ok-push.ensures.items
          (each_pushed (IsSystemAt m specs) systems one c.loop-spec.invariant.each
          (is_system_at m specs (length systems) one spec next its));
    }
