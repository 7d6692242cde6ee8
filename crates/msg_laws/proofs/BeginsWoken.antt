-- Who waits for a message from the first.
use Rattle.std.proofs.Common.{IsTrue, ap, sym, ◌∙◌, List, [], arith, map, nat_lt, refl, true, ℕ, ◌&&◌, ◌==◌, ◌∷◌, ◌≡◌, ◌≤◌, ◌⊎◌}
use Rattle.std.proofs.lemmas.{Bool.cases_Bool, Bool.Decides.eqb_tells, Bool.Decides.nat_tests}
use Rattle.msg_buffer.specs.Prelude.{count}
use Rattle.msg_system.specs.{Prelude.Asked, Prelude.asked_started, Prelude.conditions_of, Prelude.new_asked, Prelude.start_place, declared.condition.Condition.Condition, declared.condition.Probe.TheVariants.OnMessage, declared.start.Start.Start, declared.start.Start.TheVariants.Current, declared.start.Start.TheVariants.Zero}
use Rattle.msg_world.specs.{Prelude.Values, declared.part.Part.TheVariants.OfType}
use Rattle.msg_frames.specs.Prelude.{Member, State, before_joining, counts, first_state, joined_member, reader_place}
use Rattle.msg_frames.proofs.SystemsStay.{joined_is, joining_on_keeps}
use Rattle.msg_laws.specs.Prelude.{IsAtStart, WhoBeginsIsWoken}
use Rattle.msg_laws.proofs.LateStarts.{begins}

-- its one condition starts where it starts
started_one : {V : Type 0} (start : Start) (counted : List ℕ) (t : ℕ) (cs : List (Condition V))
    → map (λ (a : Asked V). a.condition) (map (asked_started start counted) (map new_asked cs)) ≡ record { nots = 0; probe = OnMessage t } ∷ []
    → map (asked_started start counted) (map new_asked cs)
    ≡ record { condition = record { nots = 0; probe = OnMessage t }; place = start_place start counted t } ∷ []
started_one start counted t [] one = absurd (grind (arith, one))
started_one start counted t (c ∷ []) one = grind (arith, one)
started_one start counted t (c ∷ d ∷ cs) one = absurd (grind (arith, one))

at_start : (start : Start) (n place : ℕ) → IsAtStart start n place → (place ≤ n) × ((n ≡ 0) ⊎ (start ≡ Current) → place ≡ n)
at_start Zero n place is = (omega (arith, is), λ h. grind (arith, is, h))
at_start Current n place is = (omega (arith, is), λ h. is)

module _ {V : Type 0} {values : Values V} where
  pub who_begins : WhoBeginsIsWoken values
  who_begins systems places rules types resources world i t sound below has reads waits =
      let s : State values = first_state systems places rules types resources world in
      let b : State values = before_joining systems places rules types resources world in
      let m : Member V = b.members i in
      let keeps = (joining_on_keeps 1 b).members i in
      let on : (nat_lt i b.systems && (m.join == 1)) ≡ true =
      grind (arith, cases_Bool, nat_tests, eqb_tells, joined_is s i, has, sound.joins i, keeps.join) in
      let is : s.members i ≡ joined_member (counts b) m = rw on refl in
      let from : ℕ = start_place m.job.system.start (counts b) t in
      let reads_it : IsTrue (m.job.system.needs.reads (OfType t)) = rw keeps.needs at reads in
      let begun = at_start m.job.system.start (count (world.histories t)) _ (begins m.job.system.start b i t refl below reads_it) in
      let here : (joined_member (counts b) m).job.system.places t ≡ from = rw reads_it refl in
      let place : reader_place s i t ≡ from = ap (λ (x : Member V). x.job.system.places t) is ∙ here in
      let waits_now = ap (λ (x : Member V). conditions_of x.job) (sym is) ∙ waits in (
        record {
          place = from;
          condition = ap (λ (x : Member V). x.job.conditions) is ∙ started_one m.job.system.start (counts b) t _ waits_now;
          within = rw (← here) begun.0;
          behind = λ n above lt. absurd (omega (arith, place, above, lt));
        },
        λ h n above lt. absurd (omega (arith, place, here, begun.1 (rw keeps.start at h), above, lt)),
      )
