-- A job whose turn reads all of a type goes past all that had been written by then.
use Rattle.std.proofs.Common.{[], IsTrue, None, Option, Some, arith, refl, suc, zero, ℕ, ◌≡◌, ◌≢◌, ◌≤◌}
use Rattle.std.proofs.lemmas.{Bool.cases_Bool, Bool.false≢true, Bool.or_cases, Bool.Decides.eqb_tells, List.Folds.list_any-append}
use Rattle.std.specs.List.{list_any}
use Rattle.msg_buffer.specs.Prelude.{IsSound, count}
use Rattle.msg_buffer.proofs.Tiles.{clears_fit, reads_fit}
use Rattle.msg_world.specs.Prelude.{Values, WorldState}
use Rattle.msg_system.specs.{Prelude.AfterProgram, Prelude.Job, Prelude.Meaning, Prelude.after_at_most, Prelude.after_job, Prelude.after_op, Prelude.next_op, Prelude.one_more, Prelude.ops_answered, Prelude.turn, declared.limits.TheConstants.MAX_OPS, declared.op.Op.Op}
use Rattle.msg_system.proofs.{Turns.cut_answers_none, Turns.ops_answered-snoc, TurnsEnd.turn_is_over}
use Rattle.msg_frames.proofs.{HistoriesGrow.counts_more, ReaderOverJob.first_passes, ReaderOverJob.next_moments, ReaderOverJob.next_passes, TellsEachOnce.tiles_rise}
use Rattle.msg_frames.specs.{Prelude.outcome_of, declared.log.Outcome.TheVariants.Skipped}
use Rattle.msg_laws.specs.Prelude.{reads_all}

module _ {V : Type 0} {values : Values V} (t : ℕ) where
  op_takes_all : (op : Op V) (writer : ℕ) (ps : ℕ → ℕ) (w : WorldState values) → IsSound (w.histories t)
      → ps t ≤ count (w.histories t) → IsTrue (reads_all t op)
      → (after_op op writer ps w).places t ≡ count (w.histories t)
  op_takes_all op writer ps w sound within is =
      grind (arith, eqb_tells, reads_fit (w.histories t) (ps t), clears_fit (w.histories t) (ps t))

  -- so it does by one op more, or it did before
  more_takes : (o : Option (Op V)) (m : Meaning V) (far : AfterProgram values) (c : ℕ) → next_op m far.replies ≡ o
      → IsSound (far.world.histories t)
      → far.places t ≤ count (far.world.histories t) → c ≤ count (far.world.histories t)
      → (IsTrue (list_any (reads_all t) (ops_answered (next_op m) far.replies)) → c ≤ far.places t)
      → IsTrue (list_any (reads_all t) (ops_answered (next_op m) (one_more o m.writer far).replies))
      → c ≤ (one_more o m.writer far).places t
  more_takes None m far c at sound within less so is = so is
  more_takes (Some op) m far c at sound within less so is =
      let next = next_passes t op m.writer far sound within in
      let rise = tiles_rise (far.places t) (next_moments t op m.writer far) _ next.tile in
      grind (arith, list_any-append, op_takes_all, ops_answered-snoc, or_cases, rise)

  first_takes : (n : ℕ) (m : Meaning V) (w : WorldState values) → IsSound (w.histories t) → m.places t ≤ count (w.histories t) →
      let far : AfterProgram values = after_at_most n (next_op m) m.writer m.places w in
      IsTrue (list_any (reads_all t) (ops_answered (next_op m) far.replies)) → count (w.histories t) ≤ far.places t
  first_takes zero m w sound within is = absurd (false≢true is)
  first_takes (suc n) m w sound within is =
      let far : AfterProgram values = after_at_most n (next_op m) m.writer m.places w in
      let so_far = first_passes t n m w sound within in
      more_takes (next_op m far.replies) m far _ refl so_far.goes_on.sound so_far.within
      (counts_more _ _ so_far.goes_on) (first_takes n m w sound within) is

  -- so a job whose last turn read all goes past all that it found
  pub job_takes : (j : Job V) (w : WorldState values) → IsSound (w.histories t) → j.system.places t ≤ count (w.histories t)
      → outcome_of (after_job j w).replies ≢ Skipped → IsTrue (list_any (reads_all t) (after_job j w).job.system.last)
      → count (w.histories t) ≤ (after_job j w).job.system.places t
  unfolding turn
  job_takes j w sound within ran reads =
      let m = j.system in
      let far : AfterProgram values = after_at_most MAX_OPS (next_op m) m.writer m.places w in
      let last = cut_answers_none (next_op m) (m.rule [] far.replies) far.replies (turn_is_over m w) in
      grind (arith, cases_Bool, first_takes MAX_OPS m w sound within, last, ran, reads)
