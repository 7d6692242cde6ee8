-- The batches one after the other are the turn order. It is lawful, and no two systems of a batch conflict.
use Rattle.std.proofs.Common.{All, AllPairs, Bool, Contains, List, [], arith, get_or, length, length-append, suc, sym, ℕ, ◌++◌, ◌-◌, ◌<◌, ◌∙◌, ◌∷◌, ◌≡◌, ◌≢◌}
use Rattle.std.specs.List.{concat}
use Rattle.std.proofs.lemmas.{Grind.get_or_default_zero, List.Kept.AllPairs-from_increasing}
use Rattle.std.proofs.lemmas.Bool.{cases_lt, cases_order}
use Rattle.std.proofs.lemmas.List.{get_or-append_right, get_or_append_left}
use Rattle.std.proofs.lemmas.List.Elements.{All-from_get_or, All-head, All-tail, Contains-get_or}
use Rattle.std.proofs.lemmas.Option.{get_or_from_slice_get, slice_get-get_or, slice_get_within}
use Rattle.msg_world.specs.declared.access.Access.{Access}
use Rattle.msg_order.specs.Prelude.{AreBatches, Graph, IsLawfulOrder, IsTurnOrder, NoneConflict, Path, Rule, RunsBefore, StandsBefore, TellsConflicts, TurnOrderIsLawful, batch_at, settled}
use Rattle.msg_order.proofs.{Chains.edge_is_path, Chains.number_once, Chains.number_rises, Elements.Contains-concat, Elements.concat-Contains, SettledOrders.conflicts_ordered}

pub stands : (order : List ℕ) (i j a b : ℕ) → a < b → b < length order → get_or order a 0 ≡ i → get_or order b 0 ≡ j
    → StandsBefore order i j
stands order i j a b lt l x y = grind (arith, slice_get-get_or)

pub place_of : (order : List ℕ) (i : ℕ) → Contains order i → (a : ℕ) × ((a < length order) × (get_or order a 0 ≡ i))
place_of order i h = (h.0, (h.1, sym (get_or_default_zero order h.0 i h.1) ∙ h.2))

pub of_place : (order : List ℕ) (i a : ℕ) → a < length order → get_or order a 0 ≡ i → Contains order i
of_place order i a l e = (a, l, get_or_default_zero order a i l ∙ e)

-- if each stands once, one place
pub one_place : (order : List ℕ) (a b : ℕ) → AllPairs (λ i j. i ≢ j) order → a < length order → b < length order
    → get_or order a 0 ≡ get_or order b 0 → a ≡ b
one_place order a b once la lb e = grind (arith, cases_order)

stands_along : (order : List ℕ) (i j k : ℕ) → AllPairs (λ i j. i ≢ j) order → StandsBefore order i k
    → StandsBefore order k j → StandsBefore order i j
stands_along order i j k once s t =
    let one = one_place order s.later t.earlier once in
    grind (arith, get_or_from_slice_get, slice_get_within, s, t, one, stands order i j s.earlier t.later)

-- a lawful order keeps paths too
pub kept_along : (g : Graph) (joined : List Bool) (order : List ℕ) → IsLawfulOrder g joined order → (i j : ℕ)
    → Path g i j → StandsBefore order i j
kept_along g joined order w i j ([], c) = w.kept i j c.0
kept_along g joined order w i j (k ∷ more, c) =
    stands_along order i j k w.once (w.kept i k c.0) (kept_along g joined order w k j (more, c.1))

-- Lists one after the other.
pub pairs_append : (R : ℕ → ℕ → Type 0) (xs ys : List ℕ) → AllPairs R xs → AllPairs R ys
    → ((i j : ℕ) → Contains xs i → Contains ys j → R i j) → AllPairs R (xs ++ ys)
pairs_append R xs ys f h across a b d lt l =
    let left = get_or_append_left xs ys d in
    let right = get_or-append_right xs ys (length xs) in
    let second = Contains-get_or ys (b - length xs) d in
    grind (arith, cases_lt, left, right, length-append xs ys, Contains-get_or xs a d, second)

-- what holds within each batch, and of an earlier one and a later one
pairs_by_batch : (R : ℕ → ℕ → Type 0) (bs : List (List ℕ)) → All (AllPairs R) bs
    → ((a b i j : ℕ) → a < b → Contains (batch_at bs a) i → Contains (batch_at bs b) j → R i j) → AllPairs R (concat bs)
pairs_by_batch R [] f h = λ a b d lt l. absurd (omega arith)
pairs_by_batch R (xs ∷ bs) f h = pairs_append R xs (concat bs) (All-head (AllPairs R) xs bs f)
    (pairs_by_batch R bs (All-tail (AllPairs R) xs bs f) (λ a b i j lt p q. h (suc a) (suc b) i j (omega arith) p q))
    (λ i j p q. let r = concat-Contains bs j q in h 0 (suc r.0) i j (omega arith) p r.1)

-- the batches one after the other are in order of batch number, and then of addition
pub in_turn_order : (g : Graph) (joined : List Bool) (bs : List (List ℕ)) → AreBatches g joined bs
    → IsTurnOrder g joined (concat bs)
in_turn_order g joined bs h = record {
  of_joined = λ i. (
    λ c. let r = concat-Contains bs i c in ((h.of_number r.0 i).0 r.1).0,
    λ e. let n = h.all i e in Contains-concat bs n.0 i ((h.of_number n.0 i).1 (e, n.1)),
  );
  all = h.all;
  in_order = pairs_by_batch (RunsBefore g) bs
      (All-from_get_or (AllPairs (RunsBefore g)) bs [] (λ b l x y d lt in_ m n at_m at_n.
      let batch : List ℕ = batch_at bs b in
      let i : ℕ = get_or batch x d in
      let j : ℕ = get_or batch y d in
      let up = AllPairs-from_increasing batch (h.by_addition b [] l) x y d lt in_ in
      let in_batch = Contains-get_or batch in
      grind (arith, up, in_batch, number_once g i b m, number_once g j b n, h.of_number b i, h.of_number b j)))
      (λ a b i j lt p q m n at_m at_n.
      grind (arith, number_once g i a m, number_once g j b n, h.of_number a i, h.of_number b j));
}

-- none runs before itself
runs_once : (g : Graph) (joined : List Bool) (order : List ℕ) → IsTurnOrder g joined order
    → AllPairs (λ i j. i ≢ j) order
runs_once g joined order t a b d lt l e =
    let i : ℕ = get_or order a d in
    let n = t.all i ((t.of_joined i).0 (Contains-get_or order a d (omega arith))) in
    let before : RunsBefore g i (get_or order b d) = t.in_order a b d lt l in
    grind (arith, before n.0 n.0 n.1)

-- a turn order is a lawful order
pub in_lawful_order : TurnOrderIsLawful
in_lawful_order g joined order among t = record {
  of_joined = t.of_joined;
  once = runs_once g joined order t;
  kept = λ i j e.
      let both = among i j e in
      let m = t.all i both.0 in
      let n = t.all j both.1 in
      let a = place_of order i ((t.of_joined i).1 both.0) in
      let b = place_of order j ((t.of_joined j).1 both.1) in
      let rise = number_rises g i j m.0 n.0 (edge_is_path g i j e) m.1 n.1 in
      let back = λ (l : b.0 < a.0). t.in_order b.0 a.0 0 l a.1.0 n.0 m.0 in
      grind (arith, cases_order a.0 b.0, rise, back, number_once g j m.0 n.0, stands order i j a.0 b.0, a, b, m, n);
}

-- no two systems of a batch conflict
pub none_conflict : (accesses : List Access) (rules : List Rule) (joined : List Bool) (conflict : ℕ → ℕ → Bool)
    (bs : List (List ℕ)) → TellsConflicts accesses joined conflict
    → AreBatches (settled conflict rules joined) joined bs → All (NoneConflict accesses) bs
none_conflict accesses rules joined conflict bs tells h =
    let g : Graph = settled conflict rules joined in
    All-from_get_or (NoneConflict accesses) bs [] (λ b l a c d lt l2 x.
    let batch : List ℕ = batch_at bs b in
    let i : ℕ = get_or batch a d in
    let j : ℕ = get_or batch c d in
    let rising : i < j = AllPairs-from_increasing batch (h.by_addition b [] l) a c d lt l2 in
    let at_i = (h.of_number b i).0 (Contains-get_or batch a d (omega arith)) in
    let at_j = (h.of_number b j).0 (Contains-get_or batch c d l2) in
    let paths = conflicts_ordered accesses rules joined conflict tells i j (omega arith) at_i.0 at_j.0 x in
    grind (arith, paths, number_rises g i j b b, number_rises g j i b b, at_i.1, at_j.1))
