-- The order of turns with an observer and without it: system n, which nothing comes after.
use Rattle.std.proofs.Common.{All, Bool, Contains, List, [], ap, append-nil, arith, cond, false, filter, flat_map, inl, inr, length, map, not, refl, suc, zero, ℕ, ◌&&◌, ◌++◌, ◌+◌, ◌-◌, ◌<◌, ◌==◌, ◌∙◌, ◌∷◌, ◌≡◌, ◌≢◌, ◌≤◌}
use Rattle.std.specs.Bool.{⊤}
use Rattle.std.specs.List.{concat, range_with_len}
use Rattle.std.proofs.lemmas.{Bool.cases_Bool, Bool.cases_eq, Bool.eq-eqb, Bool.ne_eqb, Bool.Decides.eqb_tells}
use Rattle.std.proofs.lemmas.List.{Elements.All-head, Elements.All-tail, Filters.length-filter_both, Elements.filter-append, nil_from_length}
use Rattle.msg_order.proofs.{BatchLevels.blocked, BatchLevels.few_left, BatchLevels.ready, Elements.Contains-head, Elements.Contains-tail, SettledPairs.pairs-Contains, SettledPairs.pairs_until, SettledPairs.pairs_until-more, SettledPairs.row}
use Rattle.msg_order.specs.Prelude.{Graph, batches_of, follows, has_joined, pairs, path, rules_among, settle, settled, turns}
use Rattle.msg_order.specs.declared.rule.Rule.{Rule}

module _ (n : ℕ) where
  -- all but the observer
  abbrev pub other : ℕ → Bool
  other i = not (i == n)

  abbrev pub others : List ℕ → List ℕ
  others xs = filter other xs

  -- the edges to the others
  abbrev cut : Graph → Graph
  cut g = filter (λ e. other e.1) g

  -- no edge leads from the observer
  abbrev pub IsBehind : Graph → Type 0
  IsBehind [] = ⊤
  IsBehind (e ∷ g) = (e.0 ≢ n) × IsBehind g

  none_from : (g : Graph) (j : ℕ) → IsBehind g → path g n j ≡ false
  none_from [] j b = refl
  none_from (e ∷ g) j b = grind (arith, none_from g j b.1, none_from g e.0 b.1, b.0, ne_eqb n e.0)

  -- ---- paths between others

  path_cut : (g : Graph) (i j : ℕ) → IsBehind g → j ≢ n → path (cut g) i j ≡ path g i j
  path_cut [] i j b ne = refl
  path_cut (e ∷ g) i j b ne =
      let to = path_cut g i e.0 b.1 b.0 in
      let from = path_cut g e.1 j b.1 ne in
      grind (arith, cases_Bool, cases_eq e.1 n, eqb_tells, path_cut g i j b.1 ne, to, from, none_from g j b.1)

  -- ---- the settled order

  IsBehind_rules : (rules : List Rule) → All (λ rule. rule.earlier ≢ n) rules → (joined : List Bool) → IsBehind (rules_among joined rules)
  IsBehind_rules [] all joined = tt
  IsBehind_rules (r ∷ rules) all joined =
      let rest = IsBehind_rules rules (All-tail (λ (rule : Rule). rule.earlier ≢ n) r rules all) joined in
      grind (arith, cases_Bool, rest, All-head (λ (rule : Rule). rule.earlier ≢ n) r rules all)

  module _ (with without : List Bool) (same : (i : ℕ) → i ≢ n → has_joined without i ≡ has_joined with i) where
    rules_cut : (rules : List Rule) → All (λ rule. rule.earlier ≢ n) rules
        → rules_among without (filter (λ (rule : Rule). not (rule.later == n)) rules) ≡ cut (rules_among with rules)
    rules_cut [] all = refl
    rules_cut (r ∷ rules) all =
        let rest = rules_cut rules (All-tail (λ (rule : Rule). rule.earlier ≢ n) r rules all) in
        let ne : r.earlier ≢ n = All-head (λ (rule : Rule). rule.earlier ≢ n) r rules all in
        grind (arith, cases_Bool, cases_eq r.later n, eqb_tells, rest, same r.earlier ne, same r.later)

  module _ (c d : ℕ → ℕ → Bool) where
    -- one pair more
    abbrev next : (ℕ → ℕ → Bool) → Graph → ℕ × ℕ → Graph
    next test g p = cond (test p.0 p.1 && not (path g p.1 p.0)) (p ∷ g) g

    next_behind : (g : Graph) (p : ℕ × ℕ) → IsBehind g → p.0 ≢ n → IsBehind (next c g p)
    next_behind g p b ne = grind (arith, cases_Bool, b, ne)

    next_to : (g : Graph) (p : ℕ × ℕ) → p.1 ≡ n → cut (next c g p) ≡ cut g
    next_to g p is = grind (arith, cases_Bool, is, eqb_tells)

    next_other : (g : Graph) (p : ℕ × ℕ) → IsBehind g → p.0 ≢ n → p.1 ≢ n → d p.0 p.1 ≡ c p.0 p.1 → next d (cut g) p ≡ cut (next c g p)
    next_other g p b ne isnt same =
        let e : path (cut g) p.1 p.0 ≡ path g p.1 p.0 = path_cut g p.1 p.0 b ne in
        grind (arith, cases_Bool, isnt, eqb_tells, same, e)

    settle_cut : (ps g : Graph) → IsBehind g
        → ((p : ℕ × ℕ) → Contains ps p → (p.0 ≢ n) × (p.1 ≢ n → d p.0 p.1 ≡ c p.0 p.1))
        → IsBehind (settle c g ps) × (settle d (cut g) (filter (λ (p : ℕ × ℕ). other p.1) ps) ≡ cut (settle c g ps))
    settle_cut [] g b each = (b, refl)
    settle_cut (p ∷ ps) g b each =
        let here = each p (Contains-head p ps) in
        let rest = settle_cut ps (next c g p) (next_behind g p b here.0) (λ q m. each q (Contains-tail p ps q m)) in (
          rest.0,
          elim (cases_eq p.1 n) [
            | inl is ↦ rw (eq-eqb p.1 n is, ← next_to g p is) rest.1
            | inr isnt ↦ rw (ne_eqb p.1 n isnt, next_other g p b here.0 isnt (here.1 isnt)) rest.1
          ],
        )

  -- ---- the pairs

  row_cut : (i a k : ℕ) → a + k ≡ n → filter (λ (p : ℕ × ℕ). other p.1) (map (λ j. (i, j)) (range_with_len a (suc k)))
      ≡ map (λ j. (i, j)) (range_with_len a k)
  row_cut i a zero e = grind (arith, eqb_tells, e)
  row_cut i a (suc k) e = grind (arith, eqb_tells, e, row_cut i (a + 1) k (omega (arith, e)))

  rows_cut : (a k : ℕ) → a + k ≡ n → filter (λ (p : ℕ × ℕ). other p.1) (flat_map (row (suc n)) (range_with_len a k))
      ≡ flat_map (row n) (range_with_len a k)
  rows_cut a zero e = refl
  rows_cut a (suc k) e =
      let longer : suc n - (a + 1) ≡ suc (n - (a + 1)) = omega (arith, e) in
      let first = row_cut a (a + 1) (n - (a + 1)) (omega (arith, e)) in
      rw (filter-append, longer, first, rows_cut (a + 1) k (omega (arith, e))) refl

  pairs_cut : filter (λ (p : ℕ × ℕ). other p.1) (pairs (suc n)) ≡ pairs n
  pairs_cut =
      let next : suc n ≡ n + 1 = omega arith in
      let split : pairs (suc n) ≡ pairs_until (suc n) (n + 1) = ap (pairs_until (suc n)) next in
      let none : suc n - (n + 1) ≡ 0 = omega arith in
      rw (split, pairs_until-more (suc n) n, filter-append, rows_cut 0 n (omega arith), none, append-nil) refl

  -- ---- batches

  follows_cut : (g : Graph) (left : List ℕ) (k : ℕ) → IsBehind g → k ≢ n → follows (cut g) (others left) k ≡ follows g left k
  follows_cut g [] k b ne = refl
  follows_cut g (x ∷ left) k b ne =
      let rest = follows_cut g left k b ne in
      grind (arith, cases_Bool, cases_eq x n, eqb_tells, none_from g k b, path_cut g x k b ne, rest)

  -- a test of the others alone
  filter_cut : (p q : ℕ → Bool) → ((k : ℕ) → k ≢ n → q k ≡ p k) → (xs : List ℕ) → others (filter p xs) ≡ filter q (others xs)
  filter_cut p q same [] = refl
  filter_cut p q same (x ∷ xs) = grind (arith, cases_Bool, cases_eq x n, eqb_tells, same x, filter_cut p q same xs)

-- the batches one after the other
abbrev layers : ℕ → Graph → List ℕ → List ℕ
layers m g left = concat (batches_of m g left)

layers_more : (m : ℕ) (g : Graph) (left : List ℕ) → layers (suc m) g left ≡ ready g left ++ layers m g (blocked g left)
layers_more zero g [] = refl
layers_more (suc m) g [] = refl
layers_more m g (i ∷ is) = refl

-- if all follow, none is in a batch
all_follow : (p : ℕ → Bool) (xs : List ℕ) → filter (λ k. not (p k)) xs ≡ [] → filter p xs ≡ xs
all_follow p [] none = refl
all_follow p (x ∷ xs) none = grind (arith, cases_Bool (p x), none, all_follow p xs)

-- so many batches as there are systems are enough
layers_enough : (m : ℕ) (g : Graph) (left : List ℕ) → length left ≤ m → layers (suc m) g left ≡ layers m g left
layers_enough zero g [] few = refl
layers_enough zero g (i ∷ is) few = absurd (omega arith)
layers_enough (suc m) g left few =
    elim (cases_eq (length (ready g left)) 0) [
      | inl is ↦
          let none : ready g left ≡ [] = nil_from_length (ready g left) is in
          rw (layers_more (suc m) g left, none, all_follow (follows g left) left none) refl
      | inr isnt ↦
          let all = length-filter_both (λ k. not (follows g left k)) (follows g left) (λ k. grind (arith, cases_Bool)) left in
          let fewer : length (blocked g left) ≤ m = omega (arith, all, isnt, few) in
          rw (layers_more (suc m) g left, layers_more m g left, layers_enough m g (blocked g left) fewer) refl
    ]

module _ (n : ℕ) where
  layers_cut : (m : ℕ) (g : Graph) (left : List ℕ) → IsBehind n g → others n (layers m g left) ≡ layers m (cut n g) (others n left)
  layers_cut zero g left b = refl
  layers_cut (suc m) g left b =
      let same = λ (k : ℕ) (ne : k ≢ n). follows_cut n g left k b ne in
      let one = filter_cut n (λ k. not (follows g left k)) (λ k. not (follows (cut n g) (others n left) k))
      (λ k ne. ap not (same k ne)) left in
      let two = filter_cut n (follows g left) (follows (cut n g) (others n left)) same left in
      rw (layers_more m g left, layers_more m (cut n g) (others n left), filter-append, one, layers_cut m g (blocked g left) b, two) refl

  range_cut : (a k : ℕ) → a + k ≡ n → others n (range_with_len a (suc k)) ≡ range_with_len a k
  range_cut a zero e = grind (arith, eqb_tells, e)
  range_cut a (suc k) e = grind (arith, eqb_tells, e, range_cut (a + 1) k (omega (arith, e)))

module _ (n : ℕ) (c d : ℕ → ℕ → Bool) (with without : List Bool) (long : length with ≡ suc n) (short : length without ≡ n)
    (same : (i : ℕ) → i ≢ n → has_joined without i ≡ has_joined with i)
    (alike : (i j : ℕ) → i < n → j < n → d i j ≡ c i j)
    (rules : List Rule) (behind : All (λ rule. rule.earlier ≢ n) rules) where
  abbrev fewer_rules : List Rule
  fewer_rules = filter (λ (rule : Rule). not (rule.later == n)) rules

  settled_is : IsBehind n (settled c rules with) × (settled d fewer_rules without ≡ cut n (settled c rules with))
  settled_is =
      let both = settle_cut n (λ i j. (has_joined with i && has_joined with j) && c i j)
      (λ i j. (has_joined without i && has_joined without j) && d i j) (pairs (suc n)) (rules_among with rules)
      (IsBehind_rules n rules behind with) (λ p m.
      let within = pairs-Contains (suc n) p.0 p.1 m in
      let first : p.0 ≢ n = omega (arith, within) in (
        first,
        λ isnt. grind (arith, same p.0 first, same p.1 isnt, alike p.0 p.1 (omega (arith, within)) (omega (arith, within, isnt))),
      )) in
      rw (long, short, rules_cut n with without same rules behind, ← pairs_cut n) both

  turns_of : (g h : Graph) → IsBehind n g → h ≡ cut n g → others n (turns g with) ≡ turns h without
  turns_of g h b is =
      let left : List ℕ = filter (has_joined without) (range_with_len 0 n) in
      let joined : others n (filter (has_joined with) (range_with_len 0 (suc n))) ≡ left =
      filter_cut n (has_joined with) (has_joined without) same (range_with_len 0 (suc n))
      ∙ ap (filter (has_joined without)) (range_cut n 0 n (omega arith)) in
      rw (is, long, short, layers_cut n (suc n) g (filter (has_joined with) (range_with_len 0 (suc n))) b, joined)
      (layers_enough n (cut n g) left (few_left (has_joined without) n))

  pub turns_cut : others n (turns (settled c rules with) with) ≡ turns (settled d fewer_rules without) without
  turns_cut = turns_of (settled c rules with) (settled d fewer_rules without) settled_is.0 settled_is.1
