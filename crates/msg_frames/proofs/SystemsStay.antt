-- What turns and frames keep of the systems.
use Rattle.std.proofs.Common.{IsTrue, List, [], arith, map, max, nat_le, nat_lt, refl, ℕ, ◌<◌, ◌∙◌, ◌∷◌, ◌≡◌, ◌&&◌}
use Rattle.std.specs.List.{range_with_len}
use Rattle.std.proofs.lemmas.{Bool.cases_Bool, Bool.cases_lt, Bool.false≢true, Bool.Decides.eqb_tells, List.get_or_past, List.FromFn.get_or-map-range_with_len, List.FromFn.length-map-range_with_len, Simd.map-map}
use Rattle.msg_world.specs.{Prelude.Values, declared.access.Access.Access}
use Rattle.msg_order.specs.Prelude.{has_joined}
use Rattle.msg_frames.specs.Prelude.{AreAccessesOf, Frame, FramesKeepSystems, NoCycle, SameSystems, State, UsesParts, after_joining, after_turn_of, after_turns_of, before_turns, frame_in, join_flags, with_joining}

module _ {V : Type 0} {values : Values V} where
  same_systems : (s : State values) → SameSystems s s
  same_systems s = grind arith

  pub one_turn_keeps : (i : ℕ) (s : State values) → SameSystems s (after_turn_of i s)
  one_turn_keeps i s = grind (arith, cases_Bool, eqb_tells, map-map, same_systems s)

  pub turns_keep_systems : (order : List ℕ) (s : State values) → SameSystems s (after_turns_of order s).state
  turns_keep_systems [] s = same_systems s
  turns_keep_systems (i ∷ is) s = grind (arith, one_turn_keeps i s, turns_keep_systems is (after_turn_of i s))

  pub turns_make_no_frame : (order : List ℕ) (s : State values) → (after_turns_of order s).state.frames ≡ s.frames
  turns_make_no_frame [] s = refl
  turns_make_no_frame (i ∷ is) s = turns_make_no_frame is (after_turn_of i s)

  pub turns_keep : (order : List ℕ) (s : State values) → SameSystems s (after_turns_of order s).state
      × ((after_turns_of order s).state.frames ≡ s.frames)
  turns_keep order s = (turns_keep_systems order s, turns_make_no_frame order s)

  pub joining_on_keeps : (k : ℕ) (s : State values) → SameSystems s (with_joining k s)
  joining_on_keeps k s = grind (arith, cases_Bool, map-map)

  pub joining_keeps : (s : State values) → SameSystems s (after_joining s)
  joining_keeps s = grind (arith, cases_Bool, map-map)

  pub joining_world : (s : State values) → (after_joining s).world ≡ s.world
  joining_world s = grind (arith, cases_Bool)

  pub before_keeps : (posts : List (ℕ × V)) (s : State values) → SameSystems s (before_turns posts s)
  before_keeps posts s = grind (arith, joining_keeps)

  pub frame_keeps : (order : List ℕ) (frame : Frame V) (s : State values) → SameSystems s (frame_in order frame s).state
  frame_keeps order frame s =
      grind (arith, before_keeps frame.posts s, turns_keep_systems order (before_turns frame.posts s))

  pub frames_keep : FramesKeepSystems values
  frames_keep order frame s =
      let turns = turns_make_no_frame order (before_turns frame.posts s) in
      let keeps = (λ (k : ℕ). joining_on_keeps k s) in
      grind (arith, keeps, joining_keeps s, before_keeps frame.posts s, frame_keeps order frame s, turns)

  pub accesses_stay : (s u : State values) (accesses : List Access) → SameSystems s u → AreAccessesOf s accesses
      → AreAccessesOf u accesses
  accesses_stay s u accesses h a = grind arith

  pub joined_stay : (s u : State values) → SameSystems s u → u.frames ≡ s.frames → join_flags u ≡ join_flags s
  joined_stay s u h e k = map (λ i. nat_le ((h.members i).join k) (max 1 (e k))) (range_with_len 0 (h.systems k))

  pub joined_is : (s : State values) (i : ℕ) → has_joined (join_flags s) i
      ≡ (nat_lt i s.systems && nat_le (s.members i).join (max 1 s.frames))
  joined_is s i = grind (arith, cases_lt, get_or_past, get_or-map-range_with_len, length-map-range_with_len)

  -- one that has joined is one of the systems
  pub joined_below : (s : State values) (i : ℕ) → IsTrue (has_joined (join_flags s) i) → i < s.systems
  joined_below s i h = grind (arith, cases_lt, false≢true, get_or_past, length-map-range_with_len)

  -- the rules make no cycle among them
  pub no_cycle_stays : (s u : State values) → SameSystems s u → NoCycle s → NoCycle u
  no_cycle_stays s u same none who e = rw (same.rules) (none who (e ∙ same.systems))

  pub uses_stay : (s u : State values) → SameSystems s u → UsesParts s → UsesParts u
  uses_stay s u same uses = grind (arith, same, uses)
