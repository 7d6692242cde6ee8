-- Turns one after the other, batch after batch.
use Rattle.std.proofs.Common.{◌≡◌, ℕ, ◌+◌, ◌<◌, List, [], ◌∷◌, ◌++◌, length, map, take, get_or, refl, append_assoc, ◌≢◌, zero, suc, ◌≤◌, arith, All, AllPairs}
use Rattle.std.specs.{Global.Vec, List.concat}
use Rattle.std.proofs.lemmas.{List.Folds.concat-append, Bool.eqb-true, Bool.Decides.Decides-eqb, Map.Made.IsDistinct-from_AllPairs, Map.Steps.length-le_from_distinct_below, Map.Views.Contains-from_any}
use Rattle.std.proofs.lemmas.List.{append-nil, map_push, take_more}
use Rattle.std.proofs.lemmas.List.Elements.{All-contains, All-head, All-tail}
use Rattle.msg_system.specs.Prelude.{Meaning}
use Rattle.msg_frames.specs.declared.log.Turn.{Turn}
use Rattle.msg_exec.specs.{Prelude.Lender, Prelude.LenderStands, inner.Batches.HasTurned}
use Rattle.msg_frames.specs.Prelude.{after_turns_of, State}
use Rattle.msg_frames.proofs.{BatchesSideBySide.turns_then_more, SystemsStay.turns_keep_systems, ElementsAndPairs.pairs_left, ElementsAndPairs.pairs_right}
use Rattle.msg_world.specs.declared.access.Access.{Access}
use Rattle.msg_order.specs.Prelude.{NoneConflict}
use Rattle.msg_world.specs.Prelude.{Values}

module _ {V : Type 0} {values : Values V} where
  pub as_many_systems : (is : List ℕ) (s : State values) → (after_turns_of is s).state.systems ≡ s.systems
  as_many_systems is s = (turns_keep_systems is s).systems

module _ {S V : Type 0} {values : Values V} (meaning : S → Meaning V) where
  pub turned_more : (js : List ℕ) {is : List ℕ} {s : State values} {g h : Lender S V} {before between after : List (Turn V)}
      → HasTurned meaning is s g before between
      → ((s : State values) → LenderStands meaning g s → HasTurned meaning js s h between after)
      → HasTurned meaning (is ++ js) s h before after
  turned_more js {is} {s} far next =
      let then = next _ far.state in
      record {
        state = rw turns_then_more then.state;
        turns = rw (turns_then_more is js s, then.turns, far.turns, append_assoc) refl;
      }

-- ---- batch by batch

-- the systems of a list of batches with one more
pub one_batch_more : (batches : List (Vec ℕ)) (k : ℕ) (batch : Vec ℕ) → k < length batches → batch
    ≡ get_or batches k batch
    → concat (map (λ b. b.items) (take (k + 1) batches)) ≡ concat (map (λ b. b.items) (take k batches)) ++ batch.items
one_batch_more batches k batch lt is = rw (take_more batches k batch lt, ← is, map_push, concat-append, append-nil)

-- no system stands twice in one batch, and no two of it conflict
pub of_one_batch : (accesses : List Access) (batches : List (Vec ℕ)) (k : ℕ) (batch : Vec ℕ) → k < length batches
    → batch ≡ get_or batches k batch → AllPairs (λ i j. i ≢ j) (concat (map (λ b. b.items) batches))
    → All (NoneConflict accesses) (map (λ b. b.items) batches)
    → AllPairs (λ i j. i ≢ j) batch.items × NoneConflict accesses batch.items
of_one_batch accesses [] k batch lt is once apart = absurd (omega (arith, lt))
of_one_batch accesses (b ∷ bs) zero batch lt is once apart =
    rw is (pairs_left (λ i j. i ≢ j) b.items _ once, All-head (NoneConflict accesses) b.items _ apart)
of_one_batch accesses (b ∷ bs) (suc k) batch lt is once apart =
    of_one_batch accesses bs k batch (omega (arith, lt)) is (pairs_right (λ i j. i ≢ j) b.items _ once)
    (All-tail (NoneConflict accesses) b.items _ apart)

-- numbers below n, each once, are no more than n
pub no_more_than : (is : List ℕ) (n : ℕ) → All (λ i. i < n) is → AllPairs (λ i j. i ≢ j) is → length is ≤ n
no_more_than is n below once =
    length-le_from_distinct_below is n (IsDistinct-from_AllPairs Decides-eqb is once)
    (λ q found. All-contains (λ i. i < n) is q below (Contains-from_any eqb-true q is found))
