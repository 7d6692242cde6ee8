-- Where a reader starts that joins in a run.
use Rattle.std.proofs.Common.{IsFalse, IsTrue, List, [], arith, refl, ℕ, ◌<◌, ◌∷◌, ◌≡◌}
use Rattle.std.proofs.lemmas.{Bool.cases_Bool, Bool.false≢true, Bool.Decides.nat_tests, List.FromFn.get_or-map-range_with_len, Option.unwrap_or-slice_get}
use Rattle.msg_buffer.specs.Prelude.{count}
use Rattle.msg_order.specs.Prelude.{has_joined}
use Rattle.msg_system.specs.{declared.start.Start.Start, declared.start.Start.TheVariants.Current, declared.start.Start.TheVariants.Zero}
use Rattle.msg_world.specs.{Prelude.Values, declared.part.Part.TheVariants.OfType}
use Rattle.msg_frames.proofs.BeforeTurns.{comes, prepares, stood, waits}
use Rattle.msg_frames.proofs.{ReaderOverRun.run_follows}
use Rattle.msg_frames.proofs.StatesStaySound.{joined_alike, frame_sound}
use Rattle.msg_frames.proofs.SystemsStay.{frame_keeps, frames_keep, joined_is, turns_keep}
use Rattle.msg_frames.specs.{declared.frame.Frame.Frame, Frames.turn_order}
use Rattle.msg_frames.specs.Prelude.{IsSoundState, State, before_turns, counts, found_at, frame, join_flags, joined_member, run}
use Rattle.msg_laws.proofs.OneTurn.{frame_reads}
use Rattle.msg_laws.specs.Prelude.{IsAtStart, LateReadersStart}

module _ {V : Type 0} {values : Values V} where
  -- who has joined stays so
  pub joined_still : (fs : List (Frame V)) (m : State values) (i : ℕ) → IsTrue (has_joined (join_flags m) i)
      → IsTrue (has_joined (join_flags (run fs m).state) i)
  joined_still [] m i has = has
  joined_still (f ∷ fs) m i has =
      let order = turn_order (before_turns f.posts m) in
      joined_still fs (frame f m).state i
      (grind (arith, cases_Bool, nat_tests, joined_is m i, joined_is (frame f m).state i, frame_keeps order f m, frames_keep order f m, has))

  pub begins : (start : Start) (s : State values) (i t : ℕ) → (s.members i).job.system.start ≡ start → t < s.types
      → IsTrue ((s.members i).job.system.needs.reads (OfType t))
      → IsAtStart start (count (s.world.histories t)) ((joined_member (counts s) (s.members i)).job.system.places t)
  begins Zero s i t is below reads = grind (arith, cases_Bool, is, reads)
  begins Current s i t is below reads =
      grind (arith, cases_Bool, get_or-map-range_with_len, unwrap_or-slice_get, is, reads)

  -- a run finds who joins in its first frame where it starts
  pub found_new : (f : Frame V) (fs : List (Frame V)) (s : State values) (i t : ℕ) → IsSoundState s → t < s.types
      → IsFalse (has_joined (join_flags s) i) → IsTrue (has_joined (join_flags (frame f s).state) i)
      → found_at s (run (f ∷ fs) s).state i t ≡ (joined_member (counts s) (s.members i)).job.system.places t
  found_new f fs s i t sound below out has =
      let b : State values = before_turns f.posts s in
      let m : State values = (frame f s).state in
      let here = frame_reads f.posts s sound (turn_order b) i t below in
      let keep = turns_keep (turn_order b) b in
      let types = (frame_keeps (turn_order b) f s).types in
      let later = run_follows i t fs m (frame_sound f s sound) (rw types below) (joined_still fs m i has) in
      elim ((prepares f.posts s).arrival i) [
        | stood was now same ↦ absurd (grind (arith, false≢true, was, out))
        | comes was now new ↦ rw (was, later.totals, has, here.totals, new) refl
        | waits was now same ↦ absurd (grind (arith, false≢true, has, now, joined_alike b m i keep))
      ]

  pub late_start : LateReadersStart values
  late_start f fs s i t sound below out has reads =
      rw (found_new f fs s i t sound below out has) (begins _ s i t refl below reads)
