-- What holds of turns, in other orders and by batches, and of frames. Each law is the contract of a
-- function in src/turn_laws.rt.
use Rattle.msg_frames.specs.declared.frame.Frame.{Frame}
use Rattle.msg_frames.specs.Frames.{settled_order, turn_order}
use Rattle.msg_frames.specs.Prelude.{AfterTurns, AreAccessesOf, NoCycle, SameSystems, State, UsesParts, after_turn_of, after_turns_of, all_home, are_in_conflict, join_flags, logged_turn, refused_in_run, run}
use Rattle.msg_buffer.specs.Prelude.{GoesOn, History, IsSound, count, message_of, oldest, present, unread}
use Rattle.msg_system.specs.{Prelude.AfterOp, Prelude.after_op, Prelude.refused_by, declared.op.Op.TheVariants.Drain, declared.reply.Reply.TheVariants.Drained}
use Rattle.msg_order.specs.{Order.AreBatches, Order.TellsConflicts, Order.access_of, Prelude.IsAcyclic, Prelude.IsLawfulOrder, Prelude.IsTurnOrder, Prelude.NoneConflict, Prelude.Path, Settled.batches, Settled.has_joined, Settled.settled}
use Rattle.msg_world.specs.{Prelude.Conflict, Prelude.Values, Prelude.WorldState, declared.access.Access.Access, declared.record.Record.Record}
use Rattle.std.specs.List.{concat}
use Rattle.std.specs.Prelude.{All, AllPairs, Bool, IfSome, IsPermutation, IsTrue, List, [], map, ℕ, ◌+◌, ◌++◌, ◌<◌, ◌∷◌, ◌≡◌, ◌≢◌, ◌⊎◌}

-- Turns keep the systems, and make no frame.
abbrev pub TurnsKeepSystems : {V : Type 0} → Values V → Type 0
TurnsKeepSystems values = (order : List ℕ) (s : State values)
    → SameSystems s (after_turns_of order s).state
    × ((after_turns_of order s).state.frames ≡ s.frames)

-- A drain answers all messages of the type that are present, from the number of the first on; then
-- none is, and none is unread, wherever a reader stands.
abbrev pub DrainsTakeAll : {V : Type 0} → Values V → Type 0
DrainsTakeAll {V} values = (t writer : ℕ) (places : ℕ → ℕ) (w : WorldState values)
    → let h : History (Record V) = w.histories t in
    let done : AfterOp values = after_op (Drain t) writer places w in
    (done.reply ≡ Drained (oldest h) (map message_of (present h)))
    × (present (done.world.histories t) ≡ [])
    × ((place : ℕ) → unread (done.world.histories t) place ≡ [])

-- The same systems have the same accesses, and as many frames on the same have joined.
abbrev pub SameSystemsHaveSameAccesses : {V : Type 0} → Values V → Type 0
SameSystemsHaveSameAccesses values = (s u : State values) → SameSystems s u
    → ((accesses : List Access) → AreAccessesOf s accesses → AreAccessesOf u accesses)
    × (u.frames ≡ s.frames → join_flags u ≡ join_flags s)

-- If the accesses of two systems don't conflict, the turn of one doesn't change what comes of
-- the other's, and it doesn't matter which is first.
abbrev pub TurnsOfOthersCommute : {V : Type 0} → Values V → Type 0
TurnsOfOthersCommute values = (s : State values) (accesses : List Access) (i j : ℕ)
    → AreAccessesOf s accesses
    → i < s.systems → j < s.systems → i ≢ j
    → ¬ Conflict (access_of accesses i) (access_of accesses j)
    → (logged_turn (after_turn_of i s) j ≡ logged_turn s j)
    × (logged_turn (after_turn_of j s) i ≡ logged_turn s i)
    × (after_turn_of j (after_turn_of i s) ≡ after_turn_of i (after_turn_of j s))

module _ {V : Type 0} {values : Values V} where
  -- each batch side by side, on the state that the batches before it left
  abbrev pub by_batches : List Access → List (List ℕ) → State values → AfterTurns values
  by_batches accesses [] s = record { state = s; turns = [] }
  by_batches accesses (batch ∷ batches) s =
      let rest : AfterTurns values = by_batches accesses batches (all_home accesses s batch s) in
      record { state = rest.state; turns = map (logged_turn s) batch ++ rest.turns }

-- One batch after the other, each side by side, leaves the log and the state of one turn after the
-- other.
abbrev pub FramesRunByBatches : {V : Type 0} → Values V → Type 0
FramesRunByBatches values = (s : State values) (accesses : List Access) (batches : List (List ℕ))
    → AreAccessesOf s accesses
    → All (λ i. i < s.systems) (concat batches) → AllPairs (λ i j. i ≢ j) (concat batches)
    → All (NoneConflict accesses) batches
    → after_turns_of (concat batches) s ≡ by_batches accesses batches s

-- Two lawful orders of one settled order leave the same state and have the same turns: each
-- system's comes out alike.
abbrev pub LawfulOrdersAgree : {V : Type 0} → Values V → Type 0
LawfulOrdersAgree values = (s : State values) (accesses : List Access) (conflict : ℕ → ℕ → Bool)
    (a b : List ℕ) → AreAccessesOf s accesses → TellsConflicts accesses (join_flags s) conflict
    → IsLawfulOrder (settled conflict s.rules (join_flags s)) (join_flags s) a
    → IsLawfulOrder (settled conflict s.rules (join_flags s)) (join_flags s) b
    → ((after_turns_of a s).state ≡ (after_turns_of b s).state)
    × IsPermutation (after_turns_of a s).turns (after_turns_of b s).turns

-- How the systems of a state that have joined are ordered.
pub record AreOrdered {V : Type 0} {values : Values V} (s : State values) : Type 0 where
  -- no path leads back
  pub no_cycle : IsAcyclic (settled_order s)
  -- of two in conflict, one comes before the other
  pub conflicts : (i j : ℕ) → i ≢ j → IsTrue (has_joined (join_flags s) i)
      → IsTrue (has_joined (join_flags s) j) → IsTrue (are_in_conflict s i j)
      → Path (settled_order s) i j ⊎ Path (settled_order s) j i
  -- the batches are by batch number, that of the longest chain
  pub by_number : AreBatches (settled_order s) (join_flags s)
      (batches (settled_order s) (join_flags s))
  -- the turns go by batch number, and then by addition
  pub turns : IsTurnOrder (settled_order s) (join_flags s) (turn_order s)
  -- each that has joined has one turn, after those that come before it
  pub once : IsLawfulOrder (settled_order s) (join_flags s) (turn_order s)

-- If the rules make no cycle, the systems are ordered so.
abbrev pub TurnsAreInOrder : {V : Type 0} → Values V → Type 0
TurnsAreInOrder values = (s : State values) → NoCycle s → AreOrdered s

-- The settled order is the one that the rules make, and then the pairs whose accesses conflict.
abbrev pub OrderIsSettled : {V : Type 0} → Values V → Type 0
OrderIsSettled values = (s : State values) (accesses : List Access) (conflict : ℕ → ℕ → Bool)
    → UsesParts s → AreAccessesOf s accesses → TellsConflicts accesses (join_flags s) conflict
    → settled_order s ≡ settled conflict s.rules (join_flags s)

-- Over a run each type's history goes on: what was written stays, each message in its place.
abbrev pub ListsOnlyGrow : {V : Type 0} → Values V → Type 0
ListsOnlyGrow {V} values = (frames : List (Frame V)) (s : State values) (t : ℕ)
    → IsSound (s.world.histories t)
    → GoesOn (s.world.histories t) ((run frames s).state.world.histories t)

-- Frames, and then more frames, are one run: it leaves the state that the later ones leave, and has
-- the logs and the steps of both. So what the first frames came to doesn't depend on later ones.
abbrev pub RunsCompose : {V : Type 0} → Values V → Type 0
RunsCompose {V} values = (frames later : List (Frame V)) (s : State values)
    → run (frames ++ later) s
    ≡ record {
      state = (run later (run frames s).state).state;
      logs = (run frames s).logs ++ (run later (run frames s).state).logs;
      steps = (run frames s).steps ++ (run later (run frames s).state).steps;
    }

module _ {V : Type 0} {values : Values V} where
  -- so many messages more of type t are past its limit
  abbrev pub IsPastLimit : WorldState values → ℕ → ℕ → Type 0
  IsPastLimit w t n = (w.histories t).limit < count (w.histories t) + n

-- What an op or a post of a run was refused is past the limit as the run ends too, since counts only
-- grow.
abbrev pub OpsAreRefusedPastLimits : {V : Type 0} → Values V → Type 0
OpsAreRefusedPastLimits {V} values = (frames : List (Frame V)) (s : State values)
    → All (λ x. IfSome (refused_by x.1.op x.1.reply)
    (λ r. IsPastLimit (run frames s).state.world r.of_type r.n)) (run frames s).steps

-- So is all that a system was refused of a type in a run, if that is something.
abbrev pub SystemsAreRefusedPastLimits : {V : Type 0} → Values V → Type 0
SystemsAreRefusedPastLimits {V} values = (frames : List (Frame V)) (s : State values) (i t : ℕ)
    → 0 < refused_in_run i t frames s
    → IsPastLimit (run frames s).state.world t (refused_in_run i t frames s)
