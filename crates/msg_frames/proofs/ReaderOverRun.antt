-- What a reader goes past over a run of frames.
use Rattle.std.proofs.Common.{IsTrue, List, [], ap, arith, if◌then◌else◌, map, refl, sym, ℕ, ◌++◌, ◌<◌, ◌∙◌, ◌∷◌, ◌≡◌}
use Rattle.msg_order.specs.Prelude.{has_joined}
use Rattle.std.proofs.lemmas.{Bool.cases_Bool, Grind.flat_map-append}
use Rattle.msg_buffer.specs.Prelude.{GoesOn, History}
use Rattle.msg_system.specs.Prelude.{Step}
use Rattle.msg_world.specs.{Prelude.Values, Prelude.WorldState, Prelude.after_update, declared.record.Record.Record}
use Rattle.msg_frames.specs.Frames.{turn_order}
use Rattle.msg_frames.specs.Prelude.{Frame, IsSoundState, Moment, RunsAreComplete, State, Totals, after_posts, before_turns, found_at, frame, join_flags, moments, moments_at, own_steps_in, post_steps, reader_place, run, steps_of, totals_from, turns_steps}
use Rattle.msg_frames.proofs.{EntriesAddUp.with_steps-none, SystemsStay.turns_keep, WrittenOnce.run_writes}
use Rattle.msg_frames.proofs.BeforeTurns.{Prepares, comes, prepares, stood, waits}
use Rattle.msg_frames.proofs.HistoriesGrow.{goes_further, stays}
use Rattle.msg_frames.proofs.ReaderOverJob.{Passes, entries_are, moments_of, passes_nothing}
use Rattle.msg_frames.proofs.ReaderOverTurns.{ReadsFrom, own-append, reads_further, turns_moments, turns_own, turns_read, turns_skip}
use Rattle.msg_frames.proofs.StatesStaySound.{joined_alike, frame_sound, has_no_turn, prepared_sound}
use Rattle.msg_frames.proofs.TellsEachOnce.{are_true, tells_once, tiles_rise}

module _ {V : Type 0} {values : Values V} where
  -- what the host posts goes past nothing
  posts_pass : (i t : ℕ) (posts : List (ℕ × V)) (w : WorldState values) → moments_of t (steps_of i (post_steps posts w)) ≡ []
  posts_pass i t [] w = refl
  posts_pass i t (p ∷ ps) w = grind (arith, cases_Bool, posts_pass i t ps (after_posts (p ∷ []) w))

  pub run_further : (i t : ℕ) (f : Frame V) (fs : List (Frame V)) (s : State values) →
      let b : State values = before_turns f.posts s in
      moments i t (f ∷ fs) s ≡ turns_moments i t (turn_order b) b ++ moments i t fs (frame f s).state
  run_further i t f fs s =
      let b : State values = before_turns f.posts s in
      let posts : List (ℕ × Step values) = post_steps f.posts (after_update s.world) in
      let turns : List (ℕ × Step values) = turns_steps (turn_order b) b in
      let rest : List (ℕ × Step values) = (run fs (frame f s).state).steps in
      rw (own-append i t (posts ++ turns) rest, own-append i t posts turns, posts_pass i t f.posts (after_update s.world)) refl

  -- a reader's moments are those of its own steps
  pub run_moments : (i t : ℕ) (frames : List (Frame V)) (s : State values) → moments i t frames s ≡ moments_of t (own_steps_in i frames s)
  run_moments i t [] s = refl
  run_moments i t (f ∷ fs) s =
      let b : State values = before_turns f.posts s in
      rw (run_further i t f fs s, run_moments i t fs (frame f s).state)
      (sym (flat_map-append (moments_at t) (turns_own i (turn_order b) b) (own_steps_in i fs (frame f s).state)))

  -- ---- a reader that joins in the run, or had joined

  -- what goes from a history on goes from an earlier history on
  reads_since : (i t place : ℕ) (had : Totals) (a b : History (Record V)) (xs : List (Step values)) (u : State values) → GoesOn a b
      → ReadsFrom i t place had b xs u → ReadsFrom i t place had a xs u
  reads_since i t place had a b xs u goes x = grind (arith, goes_further)

  -- By these steps reader (i, t) goes on between two states, from where it was found, with the totals that it had, or
  -- new ones if it joins.
  abbrev pub Follows : ℕ → ℕ → State values → List (Step values) → State values → Type 0
  Follows i t s xs u =
      let had = if has_joined (join_flags s) i then (s.members i).totals t else totals_from (found_at s u i t) in
      ReadsFrom i t (found_at s u i t) had (s.world.histories t) xs u

module _ {V : Type 0} {values : Values V} (i t : ℕ) where
  pub run_follows : (frames : List (Frame V)) (s : State values) → IsSoundState s → t < s.types
      → IsTrue (has_joined (join_flags (run frames s).state) i) → Follows i t s (own_steps_in i frames s) (run frames s).state
  run_follows [] s sound below has = grind (arith, passes_nothing, stays, with_steps-none values)
  run_follows (f ∷ fs) s sound below has =
      let b : State values = before_turns f.posts s in
      let order : List ℕ = turn_order b in
      let m : State values = (frame f s).state in
      let u : State values = (run fs m).state in
      let xs : List (Step values) = turns_own i order b in
      let rest : List (Step values) = own_steps_in i fs m in
      let prep : Prepares s b = prepares f.posts s in
      let keep = turns_keep order b in
      let ready : IsSoundState b = prepared_sound s b sound prep in
      let under : t < b.types = rw (prep.same.types) below in
      let here = turns_read i t order b (ready.histories t under) (ready.places i t under) in
      let goes : GoesOn (s.world.histories t) (b.world.histories t) = prep.world t (sound.histories t below) in
      let later : Follows i t m rest u = run_follows fs m (frame_sound f s sound) (rw (keep.0.types) under) has in
      let all : IsTrue (has_joined (join_flags b) i) → ReadsFrom i t (reader_place b i t) ((b.members i).totals t)
      (s.world.histories t) (xs ++ rest) u =
      λ now. reads_since i t _ _ _ _ (xs ++ rest) u goes
      (reads_further i t b xs m rest u here (rw (joined_alike b m i keep ∙ now) at later)) in
      elim (prep.arrival i) [
        | stood was now same ↦ rw was (rw (reader_place, same) at (all now))
        | comes was now new ↦ let after = rw (reader_place, new) at (all now) in rw (was, after.totals) after
        | waits was now same ↦
            rw (was, (turns_skip i order b (has_no_turn b i now)).1)
            (reads_since i t _ _ _ _ rest u (goes_further _ _ _ goes here.passes.goes_on)
            (rw (joined_alike b m i keep ∙ now) at later))
      ]

  -- so it goes past its moments
  pub run_passes : (frames : List (Frame V)) (s : State values) → IsSoundState s → t < s.types
      → IsTrue (has_joined (join_flags (run frames s).state) i)
      → Passes (found_at s (run frames s).state i t) (s.world.histories t) (moments i t frames s) (reader_place (run frames s).state i t)
      ((run frames s).state.world.histories t)
  run_passes frames s sound below has = rw (run_moments i t frames s) (run_follows frames s sound below has).passes

module _ {V : Type 0} {values : Values V} where
  pub runs_are_complete : RunsAreComplete values
  runs_are_complete frames s sound = record {
    written = λ t. run_writes t frames s sound;
    served = λ i t below has.
        let ms : List (Moment V) = moments i t frames s in
        let passes = run_passes i t frames s sound below has in
        let entries = ap (map (λ (m : Moment V). m.entry)) (run_moments i t frames s) ∙ entries_are t (own_steps_in i frames s) in
        record {
          forward = tiles_rise _ ms _ passes.tile;
          once = tells_once _ ms _ passes.tile;
          true = are_true _ _ ms _ passes.tile passes.begins passes.gives passes.earlier passes.written;
          totals = rw entries (run_follows i t frames s sound below has).totals;
        };
  }
