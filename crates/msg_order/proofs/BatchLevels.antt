-- Batches, level by level: what is left after m of them are the systems in which a chain of m edges ends.
use Rattle.std.proofs.Common.{All, Bool, Contains, List, [], ap, arith, filter, inl, inr, length, not, refl, suc, true, false, zero, ℕ, ◌&&◌, ◌+◌, ◌<◌, ◌↔◌, ◌∙◌, ◌∷◌, ◌≡◌, ◌≤◌}
use Rattle.std.specs.List.{Sorted.IsStrictlyIncreasing, range_with_len}
use Rattle.std.proofs.lemmas.{Bool.cases_Bool, Bool.false_from_ne_true, List.Elements.All-cons, List.Filters.length-filter_both, List.FromFn.length-range_with_len, List.Kept.IsStrictlyIncreasing-filter}
use Rattle.msg_world.specs.declared.limits.TheConstants.{MAX_SYSTEMS}
use Rattle.msg_order.specs.{Graph.path, Prelude.Graph, Prelude.IsAcyclic, Prelude.IsBatchNumber, Prelude.SystemSet, Prelude.batch_at, Prelude.batches_of, Prelude.follows, inner.Paths.ArePaths, inner.Paths.is_ready, inner.Paths.set_at, inner.SystemSet.has, inner.SystemSet.meets}
use Rattle.msg_order.proofs.Chains.{Ends, ends_along, ends_at_most, ends_less, ends_number, number_ends}
use Rattle.msg_order.proofs.Elements.{Contains-cases, Contains-filter, Contains-head, Contains-list_any, Contains-range, Contains-tail, filter-Contains, list_any-Contains, not_in_none}
use Rattle.msg_order.proofs.PathTest.{edge_path, no_path, path_trans, same_test, to_Path}
use Rattle.msg_order.proofs.SystemSets.{meets-found, meets-true}

-- If no path leads back, one of these has none of them before it.
first_left : (p : ℕ → ℕ → Bool) → ((i j k : ℕ) → p i j ≡ true → p j k ≡ true → p i k ≡ true)
    → ((i : ℕ) → p i i ≡ false) → (x : ℕ) (xs : List ℕ)
    → (c : ℕ) × (Contains (x ∷ xs) c × ((k : ℕ) → Contains (x ∷ xs) k → p k c ≡ false))
first_left p trans acyclic x [] =
    (x, (Contains-head x [], λ k h. grind (arith, Contains-cases x [] k h, not_in_none k, acyclic)))
first_left p trans acyclic x (y ∷ ys) =
    let f = first_left p trans acyclic y ys in
    let cases = Contains-cases x (y ∷ ys) in
    elim (cases_Bool (p x f.0)) [
      | inl t ↦ (
        x,
        (Contains-head x (y ∷ ys), λ k h. grind (arith, cases_Bool (p k x), cases k h, f.1.1 k, trans k x f.0, acyclic x, t)),
      )
      | inr e ↦ (f.0, (Contains-tail x (y ∷ ys) f.0 f.1.0, λ k h. grind (arith, cases k h, f.1.1 k, e)))
    ]

-- of those that are left the ones that none of them comes before, and the others
abbrev pub ready : Graph → List ℕ → List ℕ
ready g left = filter (λ k. not (follows g left k)) left

abbrev pub blocked : Graph → List ℕ → List ℕ
blocked g left = filter (follows g left) left

some_ready : (g : Graph) → IsAcyclic g → (x : ℕ) (xs : List ℕ) → 0 < length (ready g (x ∷ xs))
some_ready g free x xs =
    let f = first_left (path g) (path_trans g) (λ i. no_path g i i (free i)) x xs in
    let none : follows g (x ∷ xs) f.0 ≡ false = false_from_ne_true _ (λ b.
    let s = Contains-list_any (λ k. path g k f.0) (x ∷ xs) b in grind (arith, s.1, f.1.1 s.0)) in
    let there = Contains-filter (λ (k : ℕ). not (follows g (x ∷ xs) k)) (x ∷ xs) f.0 f.1.0 (grind arith) in
    omega (arith, there.1)

-- if one is ready there is a batch, and then those of the others
pub batch_more : (g : Graph) (steps : ℕ) (left : List ℕ) → 0 < length (ready g left)
    → batches_of (suc steps) g left ≡ ready g left ∷ batches_of steps g (blocked g left)
batch_more g steps [] some = absurd (omega arith)
batch_more g steps (x ∷ xs) some = refl

-- if no path leads back and none is ready, there are no batches more
pub no_batch : (g : Graph) → IsAcyclic g → (steps : ℕ) (left : List ℕ) → length (ready g left) ≡ 0
    → batches_of steps g left ≡ []
no_batch g free zero left none = refl
no_batch g free (suc steps) [] none = refl
no_batch g free (suc steps) (x ∷ xs) none = absurd (omega (arith, some_ready g free x xs))

-- ---- the levels that the sets of the code make

-- those below n that are left
abbrev pub left_of : (ℕ → Bool) → ℕ → List ℕ
left_of left n = filter left (range_with_len 0 n)

pub few_left : (left : ℕ → Bool) (n : ℕ) → length (left_of left n) ≤ n
few_left left n =
    omega (arith, length-filter_both left (λ i. not (left i)) (λ i. refl) (range_with_len 0 n), length-range_with_len 0 n)

filter_twice : (p q : ℕ → Bool) (xs : List ℕ) → filter (λ i. p i && q i) xs ≡ filter q (filter p xs)
filter_twice p q [] = refl
filter_twice p q (x ∷ xs) = grind (arith, cases_Bool, filter_twice p q xs)

module _ (left stops next : ℕ → Bool) (n : ℕ) (batch : List ℕ)
    (is : batch ≡ left_of (λ i. left i && not (stops i)) n) (goes_on : (i : ℕ) → next i ≡ (left i && stops i))
  where
    level_splits : (batch ≡ filter (λ i. not (stops i)) (left_of left n)) × (left_of next n ≡ filter stops (left_of left n))
    level_splits = (
      is ∙ filter_twice left (λ i. not (stops i)) (range_with_len 0 n),
      ap (λ (p : ℕ → Bool). left_of p n) (λ k i. goes_on i k) ∙ filter_twice left stops (range_with_len 0 n),
    )

    pub left_falls : 0 < length batch → length (left_of next n) < length (left_of left n)
    left_falls some =
        let both = length-filter_both stops (λ i. not (stops i)) (λ i. refl) (left_of left n) in
        omega (arith, some, both, ap length level_splits.0, ap length level_splits.1)

-- what `take_level` says of the next batch and of those left after it
pub level_is : (g : Graph) (before : List SystemSet) (left next : SystemSet) (batch : List ℕ) → ArePaths g before
    → length before ≤ MAX_SYSTEMS → ((k : ℕ) → has left k ≡ true → k < length before)
    → batch ≡ left_of (is_ready before left) (length before)
    → ((i : ℕ) → has next i ≡ (has left i && meets (set_at before i) left))
    → (let rest : List ℕ = left_of (has left) (length before) in
    (batch ≡ ready g rest) × (left_of (has next) (length before) ≡ blocked g rest))
level_is g before left next batch paths few within is goes_on =
    let n : ℕ = length before in
    let rest : List ℕ = left_of (has left) n in
    let stops : (i : ℕ) → meets (set_at before i) left ≡ follows g rest i = λ i. same_test _ _
    (λ e. let f = meets-true (set_at before i) left e in
    list_any-Contains (λ k. path g k i) rest f.0 (Contains-filter (has left) (range_with_len 0 n) f.0
    (Contains-range 0 n f.0 (omega arith) (omega (arith, within f.0 f.1.1.1))) f.1.1.1) (grind (arith, f.1, paths f.0 i)))
    (λ e. let f = Contains-list_any (λ k. path g k i) rest e in
    let at = filter-Contains (has left) (range_with_len 0 n) f.0 f.1.0 in
    grind (arith, at, f.1.1, paths f.0 i, within f.0, meets-found (set_at before i) left f.0)) in
    level_splits (has left) (follows g rest) (has next) n batch
    (is ∙ ap (λ (p : ℕ → Bool). left_of (λ i. has left i && not (p i)) n) (λ k i. stops i k)) (λ i. rw (← stops i) (goes_on i))

-- ---- the levels are the batches by number

-- The systems that are left after m levels.
pub record AreLeft (g : Graph) (start : ℕ → Bool) (m : ℕ) (left : List ℕ) : Type 0 where
  pub are : (i : ℕ) → Contains left i ↔ ((start i ≡ true) × Ends g m i)
  pub rising : IsStrictlyIncreasing left

-- What is made of them: the batches of the numbers from m on.
pub record AreFrom (g : Graph) (start : ℕ → Bool) (m : ℕ) (left : List ℕ) (bs : List (List ℕ)) : Type 0 where
  pub of_number : (b i : ℕ) → Contains (batch_at bs b) i ↔ ((start i ≡ true) × IsBatchNumber g i (m + b))
  pub all : (i : ℕ) → Contains left i → (n : ℕ) × IsBatchNumber g i n
  pub filled : All (λ (batch : List ℕ). 0 < length batch) bs
  pub by_addition : All IsStrictlyIncreasing bs

module _ (g : Graph) (start : ℕ → Bool) (among : (i j : ℕ) → Contains g (i, j) → (start i ≡ true) × (start j ≡ true)) where
  module _ (m : ℕ) (left : List ℕ) (h : AreLeft g start m left) where
    stops_ends : (i : ℕ) → follows g left i ≡ true → Ends g (suc m) i
    stops_ends i b =
        let f = Contains-list_any (λ k. path g k i) left b in
        ends_along g m f.0 i ((h.are f.0).0 f.1.0).1 (to_Path g f.0 i f.1.1)

    ends_stop : (i : ℕ) → Ends g (suc m) i → follows g left i ≡ true
    ends_stop i c = list_any-Contains (λ k. path g k i) left c.0 ((h.are c.0).1 ((among c.0 i c.1.1).0, c.1.0))
        (edge_path g c.0 i c.1.1)

    -- those that are ready have this batch number
    in_level : (i : ℕ) → Contains (ready g left) i ↔ ((start i ≡ true) × IsBatchNumber g i m)
    in_level i =
        let out = filter-Contains (λ (k : ℕ). not (follows g left k)) left i in
        let in_ = Contains-filter (λ (k : ℕ). not (follows g left k)) left i in
        grind (arith, cases_Bool (follows g left i), out, in_, h.are i, ends_number g i m, ends_stop i, number_ends g i m, stops_ends i)

    left_next : AreLeft g start (suc m) (blocked g left)
    left_next = record {
      are = λ i.
          let out = filter-Contains (follows g left) left i in
          let in_ = Contains-filter (follows g left) left i in
          grind (arith, out, in_, h.are i, ends_less g m i, ends_stop i, stops_ends i);
      rising = IsStrictlyIncreasing-filter (follows g left) left h.rising;
    }

    from_none : ((i : ℕ) → Contains left i → ⊥) → AreFrom g start m left []
    from_none none = record {
      of_number = λ b i. (
        λ c. absurd (not_in_none i c),
        λ x. grind (arith, none i, h.are i, x.0, (number_ends g i (m + b) x.1).0, ends_at_most g (m + b) m i),
      );
      all = λ i c. absurd (none i c);
      filled = λ k d lt. absurd (omega arith);
      by_addition = λ k d lt. absurd (omega arith);
    }

    from_more : (bs : List (List ℕ)) → 0 < length (ready g left) → AreFrom g start (suc m) (blocked g left) bs
        → AreFrom g start m left (ready g left ∷ bs)
    from_more bs some more = record {
      of_number = each;
      all = λ i c. elim (cases_Bool (follows g left i)) [
        | inl t ↦ more.all i (Contains-filter (follows g left) left i c t)
        | inr f ↦ (m, ((in_level i).0 (Contains-filter (λ (k : ℕ). not (follows g left k)) left i c (grind arith))).1)
      ];
      filled = All-cons (λ (batch : List ℕ). 0 < length batch) (ready g left) bs some more.filled;
      by_addition = All-cons IsStrictlyIncreasing (ready g left) bs
          (IsStrictlyIncreasing-filter (λ (k : ℕ). not (follows g left k)) left h.rising) more.by_addition;
    }
      where
        each : (b i : ℕ) → Contains (batch_at (ready g left ∷ bs) b) i ↔ ((start i ≡ true) × IsBatchNumber g i (m + b))
        each zero i = let same : m + 0 ≡ m = omega arith in rw same (in_level i)
        each (suc b) i = let same : m + suc b ≡ suc m + b = omega arith in rw same (more.of_number b i)

  pub levels_are : IsAcyclic g → (steps m : ℕ) (left : List ℕ) → AreLeft g start m left → length left ≤ steps
      → AreFrom g start m left (batches_of steps g left)
  levels_are free zero m [] h few = from_none m [] h (λ i. not_in_none i)
  levels_are free zero m (x ∷ xs) h few = absurd (omega arith)
  levels_are free (suc steps) m [] h few = from_none m [] h (λ i. not_in_none i)
  levels_are free (suc steps) m (x ∷ xs) h few =
      let some = some_ready g free x xs in
      let both = length-filter_both (follows g (x ∷ xs)) (λ k. not (follows g (x ∷ xs) k)) (λ k. refl) (x ∷ xs) in
      from_more m (x ∷ xs) h _ some
      (levels_are free steps (suc m) (blocked g (x ∷ xs)) (left_next m (x ∷ xs) h) (omega (arith, both, some)))
