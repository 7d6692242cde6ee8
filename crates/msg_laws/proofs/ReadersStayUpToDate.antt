-- A reader that reads all in each frame is up to date, and so it misses nothing.
use Rattle.std.proofs.Common.{All, Contains, IsTrue, List, [], arith, inl, inr, map, refl, ℕ, ◌++◌, ◌<◌, ◌∷◌, ◌≡◌, ◌≢◌, ◌≤◌}
use Rattle.msg_order.specs.Prelude.{has_joined}
use Rattle.std.proofs.lemmas.{Bool.Decides.nat_tests, List.map-append}
use Rattle.std.proofs.lemmas.Bool.{cases_Bool, cases_eq, false≢true}
use Rattle.std.proofs.lemmas.List.Elements.{All-append, All-map, All-nil}
use Rattle.std.proofs.lemmas.Option.{same_Some, slice_get_cases, slice_get_within}
use Rattle.msg_buffer.specs.Prelude.{Fits, GoesOn, History, IsPresent, Stretch, Tile, count, next_place, update}
use Rattle.msg_world.specs.{Prelude.Values, Prelude.after_update, declared.record.Record.Record}
use Rattle.msg_frames.proofs.ReaderOverRun.{run_further}
use Rattle.msg_frames.proofs.BeforeTurns.{prepares}
use Rattle.msg_frames.proofs.ElementsAndPairs.{Cut, cut}
use Rattle.msg_frames.proofs.HistoriesGrow.{counts_more, frame_goes_on, grown, posts_change, stays, turns_change}
use Rattle.msg_frames.proofs.ReaderOverJob.{IsWritten, tile_of}
use Rattle.msg_frames.proofs.ReaderOverTurns.{turns_moments}
use Rattle.msg_frames.proofs.StatesStaySound.{joined_alike, frame_sound, has_no_turn}
use Rattle.msg_frames.proofs.TellsEachOnce.{tile_fits}
use Rattle.msg_frames.proofs.SystemsStay.{frame_keeps, turns_keep}
use Rattle.msg_frames.specs.{Frames.turn_order, declared.frame.Frame.Frame, declared.log.Outcome.TheVariants.Skipped}
use Rattle.msg_frames.specs.Prelude.{IsSoundState, Moment, State, after_turns_of, before_turns, frame, join_flags, moments, reader_place, run}
use Rattle.msg_laws.proofs.{OneTurn.frame_reads, OneTurn.goes_to_turn, OneTurn.in_log, OneTurn.job_left, OneTurn.within_turn, ReadersTakeAll.job_takes, StampsStayRecent.AreRecent, StampsStayRecent.StaysRecent, StampsStayRecent.earlier_recent, StampsStayRecent.stays_recent}
use Rattle.msg_laws.specs.Prelude.{IsUpToDate, ListsOnlyGrow, MissesNothing, NothingDrained, ReadsAll, WhoIsUpToDateMissesNothing, WhoReadsEachFrameMissesNothing}

module _ {V : Type 0} where
  -- a message that was written at most one update ago, and stands at the floor or above
  pub is_there : (p : ℕ) (h : History (Record V)) (n : ℕ) → AreRecent 1 p h → p ≤ n → h.floor ≤ n → n < count h
      → IsPresent h n
  is_there p h n recent above floor within = elim (slice_get_cases h.entries n).1 [
    | inl found ↦ (found.0, found.2, grind (arith, nat_tests, recent n found.0 above found.2))
    | inr past ↦ absurd (omega (arith, past.0, within))
  ]

  -- a stretch that fits if all is present misses nothing
  none_missed : (h : History (Record V)) (place : ℕ) (s : Stretch) → Fits h place s → next_place s ≤ count h
      → ((n : ℕ) → place ≤ n → n < count h → IsPresent h n) → s.missed ≡ 0
  none_missed h place s fits within all = grind (arith, cases_eq)

  -- moments at each of which all that stands from p on is present miss nothing
  tile_misses_none : (p place : ℕ) (ms : List (Moment V)) (to : ℕ) → Tile place (map tile_of ms) to → All IsWritten ms
      → All (λ m. (n : ℕ) → p ≤ n → n < count m.history → IsPresent m.history n) ms → p ≤ place
      → All (λ m. m.entry.stretch.missed ≡ 0) ms
  tile_misses_none p place ms to tile written there above k d lt =
      let fits = tile_fits place ms to tile k d lt in
      none_missed _ fits.0 _ fits.1.1 (written k d lt) (λ n from. there k d lt n (omega (arith, fits.1.0, from, above)))

module _ {V : Type 0} {values : Values V} where
  pub runs_go_on : ListsOnlyGrow values
  runs_go_on [] s t = stays _
  runs_go_on (f ∷ fs) s t =
      grown.further _ _ _ (frame_goes_on (turn_order (before_turns f.posts s)) f s t)
      (runs_go_on fs (frame f s).state t)

  module _ (f : Frame V) (s : State values) (i t : ℕ) (sound : IsSoundState s) (below : t < s.types) where
    abbrev b : State values
    b = before_turns f.posts s

    abbrev order : List ℕ
    order = turn_order b

    abbrev u : State values
    u = (frame f s).state

    pub caught_up : ReadsAll i t f s → (earlier later : List ℕ) → turn_order b ≡ earlier ++ i ∷ later
        → count ((after_turns_of earlier b).state.world.histories t) ≤ reader_place u i t
    caught_up reads earlier later is =
        let found : State values = (after_turns_of earlier b).state in
        let left = job_left f s i earlier later is in
        rw (reader_place, left) (job_takes t (found.members i).job found.world
        (goes_to_turn f s i earlier later is t sound below).sound (within_turn f s i earlier later is t sound below)
        (in_log f s i earlier later is (λ turn. turn.system ≡ i → turn.outcome ≢ Skipped) reads.ran refl) (rw left at reads.read_all))

    pub has_frame_before : ReadsAll i t f s → count (s.world.histories t) ≤ reader_place u i t
    has_frame_before reads =
        let parts : Cut order i = cut _ _ reads.has_turn in
        let more = counts_more _ _ (goes_to_turn f s i parts.before parts.rest parts.is t sound below) in
        omega (arith, caught_up reads _ _ parts.is, more)

    -- a frame keeps recent what its update leaves recent
    pub frame_recent : (k p : ℕ) → AreRecent k p ((after_update s.world).histories t) → AreRecent k p (u.world.histories t)
    frame_recent k p recent = turns_change (StaysRecent k p) (stays_recent k p) order b t
        (posts_change (StaysRecent k p) (stays_recent k p) f.posts (after_update s.world) t recent)

    -- what is written from the frame's update on is
    pub new_recent : AreRecent 0 (count (s.world.histories t)) (u.world.histories t)
    new_recent = frame_recent 0 (count (s.world.histories t)) (λ k e from at.
        grind (arith, cases_Bool, slice_get_within ((after_update s.world).histories t).entries k e at))

    -- who stands past all that the frame found is up to date after it
    pub past_frame : count (s.world.histories t) ≤ reader_place u i t → NothingDrained t s u → IsUpToDate u i t
    past_frame had drained n above within =
        is_there (count (s.world.histories t)) (update (u.world.histories t)) n
        (λ k e from at. omega (arith, new_recent k e from at)) (omega (arith, had, above))
        (omega (arith, drained, had, above, (sound.histories t below).floor)) within

    pub now_up_to_date : ReadsAll i t f s → NothingDrained t s u → IsUpToDate u i t
    now_up_to_date reads drained = past_frame (has_frame_before reads) drained

    -- who was up to date finds all that it wasn't given present, in any history on the way
    pub all_there : (h : History (Record V)) → IsUpToDate s i t → NothingDrained t s u → GoesOn h (u.world.histories t) → (n : ℕ)
        → reader_place s i t ≤ n → n < count h → IsPresent h n
    all_there h up drained goes n above within =
        let p : ℕ = reader_place s i t in
        let recent = frame_recent 1 p
        (λ m e after at. grind (arith, cases_Bool, nat_tests, same_Some, up m after, slice_get_within)) in
        is_there p h n (earlier_recent 1 p _ _ goes recent) above
        (grind (arith, drained, nat_tests, up n above, (sound.histories t below).floor, goes.floor)) within

    -- so it misses nothing in the frame
    pub misses_none : IsTrue (has_joined (join_flags s) i) → IsUpToDate s i t → NothingDrained t s u
        → (fs : List (Frame V)) → MissesNothing i t fs u → MissesNothing i t (f ∷ fs) s
    misses_none has up drained fs rest =
        let passes = (frame_reads f.posts s sound order i t below).passes in
        let none = tile_misses_none (reader_place s i t) _ _ _ passes.tile passes.written
        (λ k d lt. all_there _ up drained (passes.earlier k d lt))
        (grind (arith, false≢true, (prepares f.posts s).arrival i)) in
        let joins = map-append (λ (m : Moment V). m.entry) (turns_moments i t order b) (moments i t fs u) in
        rw (run_further i t f fs s, joins)
        (All-append (λ e. e.stretch.missed ≡ 0) _ _ (All-map (λ e. e.stretch.missed ≡ 0) _ _ none) rest)

    -- who has a turn has joined
    pub joined_by_turn : Contains order i → IsTrue (has_joined (join_flags u) i)
    joined_by_turn at =
        let alike = joined_alike b _ i (turns_keep order b) in
        grind (arith, alike, at, cases_Bool, has_no_turn b i)

  -- ---- a run

  -- The state between a frame and the frames after it is sound, has as many types, and nothing was drained before or
  -- after it.
  pub record Between (t : ℕ) (s m u : State values) : Type 0 where
    pub sound : IsSoundState m
    pub below : t < m.types
    pub first : NothingDrained t s m
    pub rest : NothingDrained t m u

  pub between : (f : Frame V) (frames : List (Frame V)) (s : State values) (t : ℕ) → IsSoundState s → t < s.types
      → NothingDrained t s (run (f ∷ frames) s).state
      → Between t s (frame f s).state (run (f ∷ frames) s).state
  between f frames s t sound below drained =
      let order : List ℕ = turn_order (before_turns f.posts s) in
      let goes = frame_goes_on order f s t (sound.histories t below) in
      let types = (frame_keeps order f s).types in
      let later = runs_go_on frames (frame f s).state t in
      grind (arith, frame_sound f s sound, goes, types, later, drained)

  pub misses_nothing : WhoIsUpToDateMissesNothing values
  misses_nothing f s i t sound below has up drained =
      misses_none f s i t sound below has up drained [] (All-nil (λ e. e.stretch.missed ≡ 0))

  pub never_misses : WhoReadsEachFrameMissesNothing values
  never_misses f [] s i t sound below each drained = All-nil (λ e. e.stretch.missed ≡ 0)
  never_misses f (g ∷ gs) s i t sound below each drained =
      let m : State values = (frame f s).state in
      let mid : Between t s m (run (g ∷ gs) m).state = between f (g ∷ gs) s t sound below drained in
      let next : Between t m (frame g m).state (run (g ∷ gs) m).state = between g gs m t mid.sound mid.below mid.rest in
      let rest = never_misses g gs m i t mid.sound mid.below each.1 mid.rest in
      misses_none g m i t mid.sound mid.below (joined_by_turn f s i t sound below each.0.has_turn)
      (now_up_to_date f s i t sound below each.0 mid.first) next.first gs rest
