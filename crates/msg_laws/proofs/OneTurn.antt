-- One turn in a frame: who has it, what it finds, and what the turns of others leave of it.
use Rattle.std.proofs.Common.{All, AllPairs, Contains, IsTrue, List, ap, arith, refl, ℕ, ◌++◌, ◌<◌, ◌∙◌, ◌∷◌, ◌≡◌, ◌≢◌, ◌≤◌}
use Rattle.std.proofs.lemmas.{Bool.Decides.eqb_tells, List.Elements.All-contains}
use Rattle.msg_buffer.specs.Prelude.{GoesOn, count}
use Rattle.msg_order.specs.Prelude.{has_joined}
use Rattle.msg_system.specs.Prelude.{after_job}
use Rattle.msg_world.specs.Prelude.{Values}
use Rattle.msg_frames.proofs.BatchesSideBySide.{turns_then_more}
use Rattle.msg_frames.proofs.BeforeTurns.{Prepares, prepares}
use Rattle.msg_frames.proofs.ElementsAndPairs.{all_middle, pairs_head, pairs_middle, pairs_right}
use Rattle.msg_frames.proofs.Functions.{order_is}
use Rattle.msg_frames.proofs.HistoriesGrow.{Grows, goes_further, grown, turns_change}
use Rattle.msg_frames.proofs.ReaderOverTurns.{Reads, turns_own, turns_read, turns_skip}
use Rattle.msg_frames.proofs.StatesStaySound.{has_one_turn, prepared_sound}
use Rattle.msg_frames.specs.{Frames.turn_order, Prelude.AfterTurns, Prelude.IsSoundState, Prelude.NoCycle, Prelude.State, Prelude.after_turn_of, Prelude.after_turns_of, Prelude.before_turns, Prelude.frame, Prelude.join_flags, Prelude.logged_turn, Prelude.reader_place, declared.frame.Frame.Frame, declared.log.Turn.Turn}

module _ {V : Type 0} {values : Values V} where
  -- each that has joined has a turn
  pub has_turn : (b : State values) (i : ℕ) → NoCycle b → IsTrue (has_joined (join_flags b) i) → Contains (turn_order b) i
  has_turn b i free has = ((order_is b free).of_joined i).1 has

  -- what a reader goes past in turns of a frame
  pub frame_reads : (posts : List (ℕ × V)) (s : State values) → IsSoundState s
      → (order : List ℕ) (i t : ℕ) → t < s.types →
      let b : State values = before_turns posts s in
      Reads i t b (turns_own i order b) (after_turns_of order b).state
  frame_reads posts s sound order i t below =
      let b : State values = before_turns posts s in
      let prep : Prepares s b = prepares posts s in
      let ready : IsSoundState b = prepared_sound s b sound prep in
      let under : t < b.types = rw (prep.same.types) below in
      turns_read i t order b (ready.histories t under) (ready.places i t under)

module _ {V : Type 0} {values : Values V} (f : Frame V) (s : State values) (i : ℕ) (earlier later : List ℕ)
    (is : turn_order (before_turns f.posts s) ≡ earlier ++ i ∷ later) where
  abbrev begun : State values
  begun = before_turns f.posts s

  -- the state that the turn finds
  abbrev found : State values
  found = (after_turns_of earlier begun).state

  once : AllPairs (λ j k. j ≢ k) (earlier ++ i ∷ later)
  once = rw is at (has_one_turn begun)

  pub not_later : ¬ Contains later i
  not_later at = All-contains (λ k. i ≢ k) later i
      (pairs_head (λ j k. j ≢ k) i later (pairs_right (λ j k. j ≢ k) earlier (i ∷ later) once)) at refl

  split : after_turns_of (turn_order begun) begun ≡
      (let rest : AfterTurns values = after_turns_of (i ∷ later) found in
      record { state = rest.state; turns = (after_turns_of earlier begun).turns ++ rest.turns })
  split = ap (λ order. after_turns_of order begun) is ∙ turns_then_more earlier (i ∷ later) begun

  left_is : (frame f s).state ≡ (after_turns_of later (after_turn_of i found)).state
  left_is = ap (λ (a : AfterTurns values). a.state) split

  -- what holds of each turn in the log holds of this one
  pub in_log : (P : Turn V → Type 0) → All P (frame f s).log.turns → P (logged_turn found i)
  in_log P all =
      (all_middle P (after_turns_of earlier begun).turns (logged_turn found i) (after_turns_of later (after_turn_of i found)).turns
      (rw (ap (λ (a : AfterTurns values). a.turns) split) at all)).0

  pub member_found : found.members i ≡ begun.members i
  member_found = (turns_skip i earlier begun (λ at.
      All-contains (λ k. k ≢ i) earlier i (pairs_middle (λ j k. j ≢ k) earlier i later once).0 at refl)).0

  pub job_left : ((frame f s).state.members i).job ≡ (after_job (found.members i).job found.world).job
  job_left = grind (arith, left_is, turns_skip i later (after_turn_of i found) not_later, eqb_tells)

  module _ (t : ℕ) (sound : IsSoundState s) (below : t < s.types) where
    others : Reads i t begun (turns_own i earlier begun) found
    others = frame_reads f.posts s sound earlier i t below

    pub others_go_on : GoesOn (begun.world.histories t) (found.world.histories t)
    others_go_on = others.passes.goes_on

    pub goes_to_turn : GoesOn (s.world.histories t) (found.world.histories t)
    goes_to_turn = goes_further _ _ _ ((prepares f.posts s).world t (sound.histories t below)) others_go_on

    pub within_turn : reader_place found i t ≤ count (found.world.histories t)
    within_turn = others.passes.within

    pub goes_from_turn : GoesOn (found.world.histories t) ((frame f s).state.world.histories t)
    goes_from_turn = rw left_is (turns_change Grows grown (i ∷ later) found t goes_to_turn.sound)
