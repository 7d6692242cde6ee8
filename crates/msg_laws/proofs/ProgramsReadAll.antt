-- A system whose program reads all of a type reads all when it runs; without conditions, in each frame.
use Rattle.std.proofs.Common.{arith, length, refl, ℕ, ◌≡◌, ◌≤◌}
use Rattle.std.proofs.lemmas.{Bool.cases_Bool, Option.slice_get-get_or}
use Rattle.msg_world.specs.Prelude.{Values, WorldState}
use Rattle.msg_system.specs.{Prelude.BeginsTurnsWith, Prelude.Job, Prelude.after_job, Prelude.of_program, declared.limits.TheConstants.MAX_OPS, declared.program.Program.Program}
use Rattle.msg_system.proofs.Turns.{in_order, op_kept}
use Rattle.msg_frames.specs.Prelude.{frame}
use Rattle.msg_laws.proofs.TurnsBegin.{begins_reading_all, begins_when_woken, frame_keeps}
use Rattle.msg_laws.specs.Prelude.{WhoseProgramReadsAll, WhoseProgramReadsAllWhenWoken}

module _ {V : Type 0} (program : Program V) (writer : ℕ) (few : length program.ops ≤ MAX_OPS) where
  begins : (places : ℕ → ℕ) → BeginsTurnsWith program.ops (of_program program writer places)
  begins places = record {
    few = few;
    kept = λ k op lt. op_kept program.ops k _ (slice_get-get_or program.ops k op lt);
    each = λ turns replies lt. refl;
  }

  -- the system is that program
  abbrev IsProgram : Job V → Type 0
  IsProgram j = j.system ≡ of_program program writer j.system.places

  stays : {values : Values V} (j : Job V) (w : WorldState values) → IsProgram j → IsProgram (after_job j w).job
  stays j w is = grind (arith, cases_Bool, is, in_order program writer j.system.places w few)

module _ {V : Type 0} {values : Values V} where
  pub programs_read_all : WhoseProgramReadsAll values
  programs_read_all f s i t program writer places free has was few reads =
      let all = begins_reading_all f s i t program.ops free has (rw was (begins program writer few places)) (rw was refl) reads in
      let is = frame_keeps (IsProgram program writer few) i (stays program writer few) (λ counted j is. rw is refl) f s (rw was refl) in
      (all.0, (((frame f s).state.members i).job.system.places, grind (arith, is, all.2)))

  pub programs_when_woken : WhoseProgramReadsAllWhenWoken values
  programs_when_woken frames s i t program writer places is few reads =
      begins_when_woken frames s i t program.ops (rw is (begins program writer few places)) reads
