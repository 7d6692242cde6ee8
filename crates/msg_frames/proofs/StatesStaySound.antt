-- Frames keep states sound.
use Rattle.std.proofs.Common.{AllPairs, Contains, IsFalse, List, [], ap, arith, length, ℕ, ◌-◌, ◌<◌, ◌∷◌, ◌≡◌, ◌≢◌}
use Rattle.msg_order.specs.Prelude.{has_joined}
use Rattle.std.proofs.lemmas.{Bool.false≢true, List.FromFn.length-range_with_len}
use Rattle.msg_frames.specs.Frames.{settled_order, turn_order}
use Rattle.msg_frames.specs.Prelude.{FrameStaysSound, IsBalanced, IsSoundState, Member, Moment, RunStaysSound, SameSystems, State, after_turns_of, before_turns, counts, entries_at, frame, join_flags, joined_member, reader_place}
use Rattle.msg_order.proofs.Functions.{turns_differ, turns_joined}
use Rattle.msg_frames.proofs.{EntriesAddUp.all_told, HistoriesGrow.counts_more}
use Rattle.msg_frames.proofs.BeforeTurns.{Prepares, begun_within, comes, prepares, stood, waits}
use Rattle.msg_frames.proofs.ReaderOverJob.{entries_are}
use Rattle.msg_frames.proofs.ReaderOverTurns.{Reads, turns_moments, turns_own, turns_read, turns_skip}
use Rattle.msg_frames.proofs.SystemsStay.{joined_below, joined_stay, no_cycle_stays, turns_keep, uses_stay}
use Rattle.msg_frames.proofs.TellsEachOnce.{tells_once, tiles_rise}
use Rattle.msg_world.specs.Prelude.{Values}

module _ {V : Type 0} {values : Values V} where
  -- one that waits has no turn
  pub has_no_turn : (b : State values) (i : ℕ) → IsFalse (has_joined (join_flags b) i) → ¬ Contains (turn_order b) i
  unfolding turn_order
  has_no_turn b i isnt at =
      grind (arith, false≢true, turns_joined (settled_order b) (join_flags b) i at)

  -- who has a turn is one of the systems
  pub turn_below : (b : State values) (i : ℕ) → Contains (turn_order b) i → i < b.systems
  unfolding turn_order
  turn_below b i at = joined_below b i (turns_joined (settled_order b) (join_flags b) i at)

  -- each has one turn
  pub has_one_turn : (b : State values) → AllPairs (λ i j. i ≢ j) (turn_order b)
  unfolding turn_order
  has_one_turn b = turns_differ (settled_order b) (join_flags b)

  pub joined_alike : (b u : State values) (i : ℕ) → SameSystems b u × (u.frames ≡ b.frames)
      → has_joined (join_flags u) i ≡ has_joined (join_flags b) i
  joined_alike b u i keep = ap (λ flags. has_joined flags i) (joined_stay b u keep.0 keep.1)

module _ {V : Type 0} where
  pub balanced_start : (m : Member V) (counts : List ℕ) (t : ℕ)
      → IsBalanced ((joined_member counts m).totals t) ((joined_member counts m).job.system.places t)
  balanced_start m counts t = grind arith

module _ {V : Type 0} {values : Values V} (s b : State values) (sound : IsSoundState s) (prep : Prepares s b) where
  pub prepared_sound : IsSoundState b
  prepared_sound =
      let uses = uses_stay s b prep.same sound.uses in
      let free = no_cycle_stays s b prep.same sound.no_cycle in
      let more = (λ (t : ℕ). counts_more (s.world.histories t) (b.world.histories t)) in
      grind (arith, uses, free, balanced_start, begun_within s, comes, more, false≢true, stood, waits)

module _ {V : Type 0} {values : Values V} where
  pub frame_sound : FrameStaysSound values
  frame_sound f s before =
      let b : State values = before_turns f.posts s in
      let sound : IsSoundState b = prepared_sound s b before (prepares f.posts s) in
      let order : List ℕ = turn_order b in
      let keep = turns_keep order b in
      let u : State values = (after_turns_of order b).state in
      let reads : (i t : ℕ) → t < u.types → Reads i t b (turns_own i order b) u =
      λ i t below. turns_read i t order b (sound.histories t (rw (keep.0.types) at below))
      (sound.places i t (rw (keep.0.types) at below)) in
      record {
        uses = uses_stay b u keep.0 sound.uses;
        no_cycle = no_cycle_stays b u keep.0 sound.no_cycle;
        histories = λ t below. (reads 0 t below).passes.goes_on.sound;
        places = λ i t below. (reads i t below).passes.within;
        joins = λ i. grind (arith, keep.0.members i, sound.joins i);
        writers = λ i below. grind (arith, keep.0.members i, keep.0.systems, sound.writers i);
        waiting = λ i t isnt.
            let out = has_no_turn b i in
            grind (arith, joined_alike b _ i keep, out, isnt, turns_skip i order b, sound.waiting i t);
        balanced = λ i t below has.
            let ms : List (Moment V) = turns_moments i t order b in
            let read = reads i t below in
            let once = tells_once (reader_place b i t) ms (reader_place u i t) read.passes.tile in
            let up = tiles_rise (reader_place b i t) ms (reader_place u i t) read.passes.tile in
            let number = length-range_with_len (reader_place b i t) (reader_place u i t - reader_place b i t) in
            let entries = entries_are t (turns_own i order b) in
            let more = all_told (entries_at t (turns_own i order b)) in
            grind (arith, read.totals, sound.balanced i t, joined_alike b u i keep, more, ap length (rw entries at once), number, up, keep.0.types);
      }

  pub run_sound : RunStaysSound values
  run_sound [] s sound = sound
  run_sound (f ∷ fs) s sound = run_sound fs (frame f s).state (frame_sound f s sound)
