-- What the functions make: batches and turns.
use Rattle.std.proofs.Common.{AllPairs, Bool, Contains, IsTrue, List, [], ap, append_assoc, arith, inl, inr, length, length-append, not, suc, zero, ℕ, ◌++◌, ◌+◌, ◌<◌, ◌∙◌, ◌∷◌, ◌≡◌, ◌≢◌}
use Rattle.std.specs.List.{concat, range_with_len}
use Rattle.std.proofs.lemmas.{Bool.cases_Bool, List.Elements.Contains-append_cases, List.FromFn.get_or-range_with_len, List.FromFn.length-range_with_len, List.Kept.AllPairs-filter, List.Kept.IsStrictlyIncreasing-filter}
use Rattle.msg_order.specs.Prelude.{AreBatches, Graph, IsAcyclic, IsAmong, IsTurnOrder, batches, batches_of, follows, has_joined, turns}
use Rattle.msg_order.proofs.SetPaths.{joined_in}
use Rattle.msg_order.proofs.BatchLevels.{AreLeft, batch_more, blocked, few_left, left_of, levels_are, ready}
use Rattle.msg_order.proofs.Elements.{Contains-filter, Contains-range, filter-Contains, not_in_none}
use Rattle.msg_order.proofs.TurnOrders.{in_turn_order, pairs_append}
pub use Rattle.msg_order.proofs.SettledOrders.{settled_among, settled_no_cycle, settled_only, settled_orders}

-- ---- batches

pub batches_are : (g : Graph) (joined : List Bool) → IsAmong joined g → IsAcyclic g
    → AreBatches g joined (batches g joined)
batches_are g joined among free =
    let n : ℕ = length joined in
    let first : AreLeft g (has_joined joined) 0 (left_of (has_joined joined) n) = record {
      are = λ i.
          let out = filter-Contains (has_joined joined) (range_with_len 0 n) i in
          let in_ = Contains-filter (has_joined joined) (range_with_len 0 n) i in
          grind (arith, out, in_, joined_in joined i, Contains-range 0 n i);
      rising = IsStrictlyIncreasing-filter (has_joined joined) (range_with_len 0 n)
          (λ k below. grind (arith, get_or-range_with_len, length-range_with_len));
    } in
    let from = levels_are g (has_joined joined) among free n 0 _ first (few_left (has_joined joined) n) in
    let same : (b : ℕ) → 0 + b ≡ b = λ b. omega arith in
    record {
      of_number = λ b i. rw (same b) at (from.of_number b i);
      all = λ i e. from.all i ((first.are i).1 (e, tt));
      filled = from.filled;
      by_addition = from.by_addition;
    }

pub turns_are : (g : Graph) (joined : List Bool) → IsAmong joined g → IsAcyclic g → IsTurnOrder g joined (turns g joined)
turns_are g joined among free = in_turn_order g joined (batches g joined) (batches_are g joined among free)

-- ---- which systems have turns, whatever the order

-- only who is left, and nobody twice
within_left : (n : ℕ) (g : Graph) (left : List ℕ) → AllPairs (λ i j. i ≢ j) left
    → ((i : ℕ) → Contains (concat (batches_of n g left)) i → Contains left i)
    × AllPairs (λ i j. i ≢ j) (concat (batches_of n g left))
within_left zero g left once = (λ i at. absurd (not_in_none i at), λ i j d lt l. absurd (omega arith))
within_left (suc n) g [] once = (λ i at. at, once)
within_left (suc n) g (x ∷ xs) once =
    let stops : ℕ → Bool = follows g (x ∷ xs) in
    let rest : List ℕ = blocked g (x ∷ xs) in
    let later = within_left n g rest (AllPairs-filter (λ i j. i ≢ j) stops (x ∷ xs) once) in
    let out = filter-Contains (λ k. not (stops k)) (x ∷ xs) in
    let in_ = filter-Contains stops (x ∷ xs) in (
      λ i at. elim (Contains-append_cases (ready g (x ∷ xs)) (concat (batches_of n g rest)) i at) [
        | inl here ↦ (out i here).0
        | inr more ↦ (in_ i (later.0 i more)).0
      ],
      pairs_append (λ i j. i ≢ j) (ready g (x ∷ xs)) (concat (batches_of n g rest))
          (AllPairs-filter (λ i j. i ≢ j) (λ k. not (stops k)) (x ∷ xs) once) later.1
          (λ i j p q. grind (arith, cases_Bool, out i p, in_ j (later.0 j q))),
    )

abbrev all_of : List Bool → List ℕ
all_of joined = left_of (has_joined joined) (length joined)

all_differ : (joined : List Bool) → AllPairs (λ i j. i ≢ j) (all_of joined)
all_differ joined = AllPairs-filter (λ i j. i ≢ j) (has_joined joined) (range_with_len 0 (length joined))
    (λ i j d lt l. grind (arith, get_or-range_with_len, length-range_with_len))

-- only who has joined has a turn
pub turns_joined : (g : Graph) (joined : List Bool) (i : ℕ) → Contains (turns g joined) i → IsTrue (has_joined joined i)
turns_joined g joined i at =
    (filter-Contains (has_joined joined) (range_with_len 0 (length joined)) i
    ((within_left (length joined) g (all_of joined) (all_differ joined)).0 i at)).1

-- none has two turns
pub turns_differ : (g : Graph) (joined : List Bool) → AllPairs (λ i j. i ≢ j) (turns g joined)
turns_differ g joined = (within_left (length joined) g (all_of joined) (all_differ joined)).1

-- ---- the batches that the sets of the code make

-- these were made of the first, and those are left: so many steps more make the rest
abbrev pub AreOut : Graph → (ℕ → Bool) → (ℕ → Bool) → ℕ → List (List ℕ) → Type 0
AreOut g first left n bs = (steps : ℕ)
    → batches_of (length bs + steps) g (left_of first n) ≡ bs ++ batches_of steps g (left_of left n)

pub out_next : (g : Graph) (first left after : ℕ → Bool) (n : ℕ) (bs : List (List ℕ)) (batch : List ℕ)
    → (batch ≡ ready g (left_of left n)) × (left_of after n ≡ blocked g (left_of left n)) → 0 < length batch
    → AreOut g first left n bs → AreOut g first after n (bs ++ batch ∷ [])
out_next g first left after n bs batch level some out steps =
    let longer : length (bs ++ batch ∷ []) + steps ≡ length bs + suc steps = omega (arith, length-append bs (batch ∷ [])) in
    let more = batch_more g steps (left_of left n) (omega (arith, some, ap length level.0)) in
    rw (longer, append_assoc, level.0, level.1) (out (suc steps) ∙ ap (λ (bss : List (List ℕ)). bs ++ bss) more)
