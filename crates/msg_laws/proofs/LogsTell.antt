-- What the logs of a run tell of a reader is what it went past.
use Rattle.msg_frames.proofs.{EntriesOfSteps.job_logged, ReaderOverJob.entries_are, ReaderOverRun.run_further, ReaderOverTurns.answers_among, ReaderOverTurns.own_moments, ReaderOverTurns.turns_further, ReaderOverTurns.turns_moments, SystemsStay.before_keeps, SystemsStay.one_turn_keeps}
use Rattle.msg_frames.specs.{Frames.turn_order, declared.frame.Frame.Frame}
use Rattle.msg_frames.specs.Prelude.{Moment, State, after_turn_of, after_turns_of, answers_in, before_turns, entries_of_turns, frame, logged_turn, moments, replies_of, run}
use Rattle.msg_laws.specs.Prelude.{LogsTellEntries}
use Rattle.msg_system.specs.{Prelude.Needs, Prelude.OpRule, Prelude.after_job, declared.reply.Reply.Reply}
use Rattle.msg_world.specs.Prelude.{Values}
use Rattle.std.proofs.Common.{List, [], append_assoc, arith, cond, map, refl, ℕ, ◌++◌, ◌==◌, ◌∷◌, ◌≡◌}
use Rattle.std.proofs.lemmas.{Bool.cases_Bool, Bool.Decides.eqb_tells, List.map-append}

module _ {V : Type 0} where
  -- a rule, after turns that were answered so
  abbrev pub after_told : List (List (Reply V)) → OpRule V → OpRule V
  after_told turns rule = λ later now. rule (turns ++ later) now

  pub entries_of_turns-append : (t : ℕ) (n : Needs) (rule : OpRule V) (xs ys : List (List (Reply V)))
      → entries_of_turns t n rule (xs ++ ys) ≡ entries_of_turns t n rule xs ++ entries_of_turns t n (after_told xs rule) ys
  entries_of_turns-append t n rule [] ys = refl
  entries_of_turns-append t n rule (x ∷ xs) ys =
      grind (arith, append_assoc, entries_of_turns-append t n (after_told (x ∷ []) rule) xs ys)

-- what the turn of system j tells of system i, and what system i does from then on
pub record Tells {V : Type 0} {values : Values V} (i t : ℕ) (s : State values) (turns : List (List (Reply V))) (ms : List (Moment V)) (u : State values) : Type 0 where
  pub entries : entries_of_turns t (s.members i).job.system.needs (s.members i).job.system.rule turns
      ≡ map (λ m. m.entry) ms
  pub rule : (u.members i).job.system.rule ≡ after_told turns (s.members i).job.system.rule
  pub needs : (u.members i).job.system.needs ≡ (s.members i).job.system.needs

module _ {V : Type 0} {values : Values V} where
  pub tells_further : (i t : ℕ) (a : State values) (xs : List (List (Reply V))) (ms : List (Moment V)) (b : State values)
      (ys : List (List (Reply V))) (ns : List (Moment V)) (c : State values)
      → Tells i t a xs ms b → Tells i t b ys ns c → Tells i t a (xs ++ ys) (ms ++ ns) c
  tells_further i t a xs ms b ys ns c x y =
      let m = (a.members i).job.system in
      grind (arith, append_assoc, entries_of_turns-append t m.needs m.rule xs ys, map-append)

  turn_tells : (i t j : ℕ) (s : State values) → Tells i t s (cond (j == i) (replies_of (logged_turn s j).outcome) [])
      (own_moments i t j s) (after_turn_of j s)
  turn_tells i t j s = record {
    entries = grind (arith, eqb_tells, job_logged t (s.members i).job s.world, entries_are t (after_job (s.members i).job s.world).steps);
    rule = grind (arith, cases_Bool, eqb_tells j i, eqb_tells i j);
    needs = ((one_turn_keeps j s).members i).needs;
  }

  pub turns_tell : (i t : ℕ) (js : List ℕ) (s : State values)
      → Tells i t s (answers_among i (after_turns_of js s).turns) (turns_moments i t js s) (after_turns_of js s).state
  turns_tell i t [] s = record { entries = refl; rule = refl; needs = refl }
  turns_tell i t (j ∷ js) s = rw (turns_further i t j js s)
      (tells_further i t s (cond (j == i) (replies_of (logged_turn s j).outcome) []) (own_moments i t j s) _ _ _ _
      (turn_tells i t j s) (turns_tell i t js (after_turn_of j s)))

  pub run_tells : (i t : ℕ) (frames : List (Frame V)) (s : State values)
      → Tells i t s (answers_in i (run frames s).logs) (moments i t frames s) (run frames s).state
  run_tells i t [] s = grind arith
  run_tells i t (f ∷ fs) s =
      let b : State values = before_turns f.posts s in
      let told = turns_tell i t (turn_order b) b in
      let needs = ((before_keeps f.posts s).members i).needs in
      let here : Tells i t s (answers_among i (frame f s).log.turns) (turns_moments i t (turn_order b) b) (frame f s).state =
      grind (arith, cases_Bool, needs, told) in
      rw (run_further i t f fs s)
      (tells_further i t s _ _ _ _ _ (run (f ∷ fs) s).state here (run_tells i t fs (frame f s).state))

  pub logs_tell : LogsTellEntries values
  logs_tell i t frames s = (run_tells i t frames s).entries
