-- When readers have what was written: at once, or in the next frame.
use Rattle.std.proofs.Common.{Contains, IsTrue, List, [], ap, append_assoc, arith, filter, flat_map, get_or-append-add, inl, inr, length, length-append, map, refl, sym, ℕ, ◌++◌, ◌+◌, ◌-◌, ◌<◌, ◌==◌, ◌∙◌, ◌∷◌, ◌≡◌, ◌≤◌}
use Rattle.std.proofs.lemmas.{Bool.cases_Bool, Bool.Decides.eqb_tells, List.append-nil, List.length-map, List.Elements.All-contains, List.Elements.Contains-append_left, List.Elements.filter-append, List.FromFn.get_or-enumerate_from, List.FromFn.length-enumerate_from}
use Rattle.msg_buffer.specs.Prelude.{Entry, GoesOn, count}
use Rattle.msg_world.specs.{Prelude.Values, Prelude.WorldState, Prelude.after_update, declared.record.Record.Record}
use Rattle.msg_system.specs.Prelude.{Step}
use Rattle.msg_order.specs.Prelude.{Path, has_joined}
use Rattle.msg_order.proofs.Elements.{Contains-cases, Contains-head, Contains-range, Contains-tail, filter-Contains, flat_map-Contains, map-Contains}
use Rattle.msg_frames.proofs.{LawfulOrdersAgree.lawful_forward}
use Rattle.msg_frames.proofs.BeforeTurns.{begun_within, prepares}
use Rattle.msg_frames.proofs.ElementsAndPairs.{Cut, cut, pairs_head, pairs_right}
use Rattle.msg_frames.proofs.HistoriesGrow.{counts_more}
use Rattle.msg_frames.proofs.ReaderOverRun.{run_passes, runs_are_complete}
use Rattle.msg_frames.proofs.StatesStaySound.{frame_sound, prepared_sound, turn_below}
use Rattle.msg_frames.proofs.SystemsStay.{frame_keeps}
use Rattle.msg_frames.proofs.WrittenOnce.{before_writes, run_writes, turns_write, written_further}
use Rattle.msg_frames.specs.declared.frame.Frame.{Frame}
use Rattle.msg_frames.specs.Frames.{settled_order, turn_order}
use Rattle.msg_frames.specs.Prelude.{IsSoundState, IsTrueEntry, IsWrittenOnce, Moment, State, after_turn_of, after_turns_of, all_written, before_turns, entries_in_run, found_at, frame, join_flags, moments, numbers_missed, post_steps, reader_place, run, written_in, turn_of, turns_steps}
use Rattle.msg_laws.proofs.{LateStarts.found_new, LateStarts.joined_still, OneTurn.others_go_on, OrderOfTurns.are_ordered, WritersInOrder.is_by, WritersInOrder.by_writer}
use Rattle.msg_laws.proofs.ReadersStayUpToDate.{caught_up, frame_recent, has_frame_before, is_there, joined_by_turn, new_recent}
use Rattle.msg_laws.proofs.StampsStayRecent.{AreRecent, earlier_recent}
use Rattle.msg_laws.specs.Prelude.{AllReadersHaveItNext, HasTaken, LaterReadersHaveItAtOnce, NothingDrained, PostsAreTakenAtOnce, written_by}

-- ---- the numbers that are told

module _ {V : Type 0} {values : Values V} (t n : ℕ) (m : Record V) where
  -- what steps tell was written between the states that they lead from and to
  written_between : (w : WorldState values) (steps : List (ℕ × Step values)) (v : WorldState values)
      → IsWrittenOnce t w steps v
      → Contains (written_in t steps) (n, m) → (count (w.histories t) ≤ n) × (n < count (v.histories t))
  written_between w steps v once c =
      let message = λ (e : Entry (Record V)). e.message in
      let old : List (ℕ × Record V) = all_written (w.histories t) in
      let all : List (Record V) = map message (v.histories t).entries in
      let before = length-enumerate_from 0 (map message (w.histories t).entries) in
      let long : length old + length (written_in t steps) ≡ length all =
      omega (arith, ap length once.grew, length-append old (written_in t steps), length-enumerate_from 0 all) in
      let place = get_or-enumerate_from 0 all (length old + c.0) (n, m) (omega (arith, long, c.1)) in
      let at = sym (rw (once.grew) at place) ∙ get_or-append-add old (written_in t steps) c.0 (n, m) ∙ c.2 in
      let same : length old + c.0 ≡ n = omega (arith, ap (λ (x : ℕ × Record V). x.0) at) in (
        omega (arith, same, before, length-map (w.histories t).entries message),
        omega (arith, same, long, c.1, length-map (v.histories t).entries message),
      )

module _ {V : Type 0} {values : Values V} (t i : ℕ) where
  -- what one system is told is among what is told
  by_this_writer : (steps : List (ℕ × Step values)) (n : ℕ) (m : Record V) → Contains (written_by i t steps) (n, m)
      → Contains (written_in t steps) (n, m)
  by_this_writer steps n m c = (filter-Contains (is_by i) (written_in t steps) (n, m) (rw (by_writer i t steps) at c)).0

-- ---- what a run does with a message that is new in its first frame

module _ {V : Type 0} {values : Values V} where
  -- who has joined by the end of the first frame was found no further on than that frame's messages
  found_within : (f : Frame V) (fs : List (Frame V)) (s : State values) (j t : ℕ) → IsSoundState s → t < s.types
      → IsTrue (has_joined (join_flags (frame f s).state) j)
      → found_at s (run (f ∷ fs) s).state j t ≤ count (s.world.histories t)
  found_within f fs s j t sound below has = elim (cases_Bool (has_joined (join_flags s) j)) [
    | inl was ↦ rw was (sound.places j t below)
    | inr out ↦ rw (found_new f fs s j t sound below out has) (begun_within s j t below (sound.places j t below))
  ]

  module _ (f : Frame V) (fs : List (Frame V)) (s : State values) (j t n : ℕ) (sound : IsSoundState s) (below : t < s.types)
      (has : IsTrue (has_joined (join_flags (frame f s).state) j)) where
    abbrev u : State values
    u = (run (f ∷ fs) s).state

    still : IsTrue (has_joined (join_flags u) j)
    still = joined_still fs (frame f s).state j has

    not_missed : count (s.world.histories t) ≤ n → AreRecent 1 (count (s.world.histories t)) (u.world.histories t)
        → NothingDrained t s u → ¬ Contains (flat_map numbers_missed (entries_in_run j t (f ∷ fs) s)) n
    not_missed above recent drained c =
        let p : ℕ = count (s.world.histories t) in
        let ms : List (Moment V) = moments j t (f ∷ fs) s in
        let e = flat_map-Contains numbers_missed (map (λ x. x.entry) ms) n c in
        let x = map-Contains (λ x. x.entry) ms e.0 e.1.0 in
        let goes = All-contains (λ x. GoesOn x.history (u.world.histories t)) ms x.0
        (run_passes j t (f ∷ fs) s sound below still).earlier x.1.0 in
        let true = All-contains (IsTrueEntry (u.world.histories t)) ms x.0
        ((runs_are_complete (f ∷ fs) s sound).served j t below still).true x.1.0 in
        let gone = true.missed n (rw (x.1.1) e.1.1) in
        gone.1 (is_there p x.0.history n (earlier_recent 1 p _ _ goes recent) above
        (omega (arith, goes.floor, drained, (sound.histories t below).floor, above)) gone.0)

    has_taken : count (s.world.histories t) ≤ n → n < reader_place u j t
        → AreRecent 1 (count (s.world.histories t)) (u.world.histories t) → HasTaken j t n (f ∷ fs) s
    has_taken above passed recent =
        let found : ℕ = found_at s u j t in
        let within = found_within f fs s j t sound below has in
        record {
          counted = rw (((runs_are_complete (f ∷ fs) s sound).served j t below still).once)
              (Contains-range found (reader_place u j t - found) n (omega (arith, within, above)) (omega (arith, passed, within, above)));
          not_missed = not_missed above recent;
        }

  -- ---- in the next frame

  pub all_next : AllReadersHaveItNext values
  all_next f next s i j t sound below has reads n m c =
      let p : ℕ = count (s.world.histories t) in
      let mid : State values = (frame f s).state in
      let sound_mid : IsSoundState mid = frame_sound f s sound in
      let below_mid : t < mid.types = rw ((frame_keeps (turn_order (before_turns f.posts s)) f s).types) below in
      let wrote_once = rw (append-nil (frame f s).steps) at (run_writes t (f ∷ []) s sound) in
      let told_so = by_this_writer t i (frame f s).steps n m c in
      let at = written_between t n m s.world (frame f s).steps mid.world wrote_once told_so in
      let passed = has_frame_before next mid j t sound_mid below_mid reads in
      let updated : AreRecent 1 p ((after_update mid.world).histories t) = λ k e from is.
      grind (arith, cases_Bool, new_recent f s j t sound below k e from, is) in
      has_taken f (next ∷ []) s j t n sound below has at.0 (omega (arith, at.1, passed))
      (frame_recent next mid j t sound_mid below_mid 1 p updated)

  -- ---- at once

  turns_steps_append : (xs ys : List ℕ) (s : State values) → turns_steps (xs ++ ys) s
      ≡ turns_steps xs s ++ turns_steps ys (after_turns_of xs s).state
  turns_steps_append [] ys s = refl
  turns_steps_append (x ∷ xs) ys s = grind (arith, append_assoc, turns_steps_append xs ys (after_turn_of x s))

  by_others : (i j : ℕ) → ¬ (j ≡ i) → (xs : List (Step values)) → filter (λ (x : ℕ × Step values). x.0 == i) (map (λ x. (j, x)) xs) ≡ []
  by_others i j ne [] = refl
  by_others i j ne (x ∷ xs) = grind (arith, eqb_tells j i, ne, by_others i j ne xs)

  -- who has no turn has no steps
  no_steps_of : (i : ℕ) (js : List ℕ) (s : State values) → ¬ Contains js i → filter (λ x. x.0 == i) (turns_steps js s) ≡ []
  no_steps_of i [] s out = refl
  no_steps_of i (j ∷ js) s out =
      let others = by_others i j (λ e. out (rw (← e) (Contains-head j js))) (turn_of s j).steps in
      rw (filter-append (λ x. x.0 == i) (map (λ x. (j, x)) (turn_of s j).steps) (turns_steps js (after_turn_of j s)), others)
      (no_steps_of i js (after_turn_of j s) (λ at. out (Contains-tail j js i at)))

  pub posts_at_once : PostsAreTakenAtOnce values
  posts_at_once f s j t sound below reads n m c =
      let b : State values = before_turns f.posts s in
      let cuts : Cut (turn_order b) j = cut (turn_order b) j reads.has_turn in
      let at = written_between t n m s.world (post_steps f.posts (after_update s.world)) b.world (before_writes t f.posts s) c in
      let passed = caught_up f s j t sound below reads cuts.before cuts.rest cuts.is in
      let more = counts_more _ _ (others_go_on f s j cuts.before cuts.rest cuts.is t sound below) in
      let has = joined_by_turn f s j t sound below reads.has_turn in
      has_taken f [] s j t n sound below has at.0 (omega (arith, at.1, passed, more))
      (λ k e from is. omega (arith, new_recent f s j t sound below k e from is))

  pub later_at_once : LaterReadersHaveItAtOnce values
  later_at_once f s i j t sound below path reads n m c =
      let b : State values = before_turns f.posts s in
      let g = settled_order b in
      let order : List ℕ = turn_order b in
      let ready : IsSoundState b = prepared_sound s b sound (prepares f.posts s) in
      let ordered = are_ordered b ready.no_cycle in
      let cuts : Cut order j = cut order j reads.has_turn in
      let forward = rw (cuts.is) at (lawful_forward g _ order ordered.once) in
      let later = pairs_head (λ k l. ¬ Path g l k) j cuts.rest (pairs_right (λ k l. ¬ Path g l k) cuts.before (j ∷ cuts.rest) forward) in
      let out : ¬ Contains (j ∷ cuts.rest) i = λ at. elim (Contains-cases j cuts.rest i at) [
        | inl same ↦ ordered.no_cycle i (rw same at path)
        | inr after ↦ All-contains (λ k. ¬ Path g k j) cuts.rest i later after path
      ] in
      let found : State values = (after_turns_of cuts.before b).state in
      let posts = post_steps f.posts (after_update s.world) in
      let early : List (ℕ × Step values) = posts ++ turns_steps cuts.before b in
      let late : List (ℕ × Step values) = turns_steps (j ∷ cuts.rest) found in
      let by_one = λ (x : ℕ × Step values). x.0 == i in
      let none = no_steps_of i (j ∷ cuts.rest) found out in
      let parted : written_by i t (posts ++ turns_steps (cuts.before ++ j ∷ cuts.rest) b) ≡ written_by i t early =
      rw (
        turns_steps_append cuts.before (j ∷ cuts.rest) b,
        ← append_assoc posts (turns_steps cuts.before b) late,
        filter-append by_one early late,
        none,
        append-nil,
      ) refl in
      let early_alone = ap (λ (o : List ℕ). written_by i t (posts ++ turns_steps o b)) cuts.is ∙ parted in
      let own = λ (k : ℕ) (at : Contains cuts.before k).
      ready.writers k (turn_below b k (rw (cuts.is) (Contains-append_left cuts.before (j ∷ cuts.rest) k at))) in
      let once = written_further t _ _ _ _ _ (before_writes t f.posts s) (turns_write t cuts.before b own) in
      let at = written_between t n m s.world early found.world once (by_this_writer t i early n m (rw early_alone at c)) in
      let passed = caught_up f s j t sound below reads cuts.before cuts.rest cuts.is in
      let has = joined_by_turn f s j t sound below reads.has_turn in
      has_taken f [] s j t n sound below has at.0 (omega (arith, at.1, passed))
      (λ k e from is. omega (arith, new_recent f s j t sound below k e from is))
