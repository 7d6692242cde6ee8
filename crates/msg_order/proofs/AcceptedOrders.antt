-- An order is lawful just if its systems can be taken one after the other, each with none left before it.
use Rattle.std.proofs.Common.{Bool, List, arith, false, get_or, inl, inr, length, not, true, ℕ, ◌&&◌, ◌+◌, ◌<◌, ◌==◌, ◌≡◌, ◌⊎◌}
use Rattle.std.specs.List.{list_any, range_with_len}
use Rattle.std.proofs.lemmas.{Bool.cases_Bool, Bool.cases_eq, Bool.Decides.eqb_tells, List.get_or_default, Option.get_or_from_slice_get, Option.slice_get_within}
use Rattle.msg_order.specs.Prelude.{Graph, IsEdge, IsLawfulOrder, StandsBefore, has_joined}
use Rattle.msg_order.proofs.{SystemSets.below_some, SystemSets.some_below, TurnOrders.of_place, TurnOrders.one_place, TurnOrders.place_of, TurnOrders.stands}

-- i stands among the first k, or not
pub find_place : (order : List ℕ) (i k : ℕ) → ((a : ℕ) × ((a < k) × (get_or order a 0 ≡ i)))
    ⊎ ((a : ℕ) → a < k → get_or order a 0 ≡ i → ⊥)
find_place order i k =
    let test : ℕ → Bool = λ a. get_or order a 0 == i in
    elim (cases_Bool (list_any test (range_with_len 0 k))) [
      | inl t ↦ let f = below_some test k t in inl (f.0, grind (arith, eqb_tells, f.1))
      | inr e ↦ inr (λ a l x. grind (arith, eqb_tells, some_below test k a l))
    ]

-- the first k of the order were taken, and these are left
pub record AreTaken (g : Graph) (joined : List Bool) (order : List ℕ) (k : ℕ) (left : ℕ → Bool) : Type 0 where
  pub is_left : (i : ℕ) → left i ≡ true → (has_joined joined i ≡ true) × ((a : ℕ) → a < k → get_or order a 0 ≡ i → ⊥)
  pub stays : (i : ℕ) → has_joined joined i ≡ true → ((a : ℕ) → a < k → get_or order a 0 ≡ i → ⊥) → left i ≡ true
  pub among : (a : ℕ) → a < k → has_joined joined (get_or order a 0) ≡ true
  pub once : (a b : ℕ) → a < b → b < k → get_or order a 0 ≡ get_or order b 0 → ⊥
  pub before : (b : ℕ) → b < k → (i : ℕ) → has_joined joined i ≡ true → IsEdge g i (get_or order b 0) → (a : ℕ)
      × ((a < b) × (get_or order a 0 ≡ i))

pub taken_next : (g : Graph) (joined : List Bool) (left next : ℕ → Bool) (order : List ℕ) (k s : ℕ) → s
    ≡ get_or order k 0 → left s ≡ true → ((i : ℕ) → left i ≡ true → IsEdge g i s → ⊥)
    → ((i : ℕ) → next i ≡ (not (i == s) && left i)) → AreTaken g joined order k left
    → AreTaken g joined order (k + 1) next
taken_next g joined left next order k s at on open_ step t = record {
  is_left = λ i e. grind (arith, eqb_tells, cases_eq, step i, t.is_left i);
  stays = λ i e h. grind (arith, eqb_tells, step i, t.stays i, h k);
  among = λ a h. grind (arith, cases_eq, t.among, t.is_left s);
  once = λ a b h l x. grind (arith, cases_eq, t.is_left s, t.once a b);
  before = λ b h i e p. grind (arith, cases_eq, find_place order i k, open_ i, t.stays i, t.before b);
}

-- if all were taken and none is left, the order is lawful
pub taken_all : (g : Graph) (joined : List Bool) (left : ℕ → Bool) (order : List ℕ)
    → ((i j : ℕ) → IsEdge g i j → (has_joined joined i ≡ true) × (has_joined joined j ≡ true))
    → AreTaken g joined order (length order) left → ((i : ℕ) → left i ≡ false) → IsLawfulOrder g joined order
taken_all g joined left order among t none =
    let place : (i : ℕ) → has_joined joined i ≡ true → (a : ℕ) × ((a < length order) × (get_or order a 0 ≡ i)) =
    λ i e. grind (arith, find_place order i (length order), none i, t.stays i e) in
    record {
      of_joined = λ i. grind (arith, place_of order i, t.among, place i, of_place order i);
      once = λ a b d lt l e. grind (arith, t.once a b, get_or_default order a 0 d, get_or_default order b d 0);
      kept = λ i j e.
          let b = place j (among i j e).1 in
          grind (arith, among i j e, b, t.before b.0 b.1.0 i, stands order i j);
    }

-- a lawful order goes on with one that is left, before which none is left
pub goes_on : (g : Graph) (joined : List Bool) (left : ℕ → Bool) (order : List ℕ) (k : ℕ) → k < length order
    → AreTaken g joined order k left → IsLawfulOrder g joined order
    → (left (get_or order k 0) ≡ true) × ((i : ℕ) → left i ≡ true → IsEdge g i (get_or order k 0) → ⊥)
goes_on g joined left order k l t w =
    let s : ℕ = get_or order k 0 in (
      grind (arith, find_place order s k, t.stays s, w.of_joined s, of_place order s k, w.once),
      λ i on e.
          let b : StandsBefore order i s = w.kept i s e in
          grind (arith, b, get_or_from_slice_get, slice_get_within, one_place order b.later k w.once, t.is_left i on),
    )
