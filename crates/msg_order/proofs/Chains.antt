-- Chains, joined end to end, and counted from their end.
use Rattle.std.proofs.Common.{Bool, IsTrue, List, [], append_assoc, arith, length, length-append, refl, suc, zero, ℕ, ◌++◌, ◌+◌, ◌<◌, ◌∷◌, ◌≡◌, ◌≤◌}
use Rattle.std.proofs.lemmas.Bool.{cases_eq}
use Rattle.msg_order.specs.Prelude.{Graph, IsAmong, IsBatchNumber, IsChain, IsEdge, Path, has_joined}

-- if each edge of g is one of h, so is each chain
pub chain_grows : (g h : Graph) → ((i j : ℕ) → IsEdge g i j → IsEdge h i j) → (xs : List ℕ) → IsChain g xs
    → IsChain h xs
chain_grows g h f [] c = tt
chain_grows g h f (i ∷ []) c = tt
chain_grows g h f (i ∷ (j ∷ more)) c = (f i j c.0, chain_grows g h f (j ∷ more) c.1)

pub path_grows : (g h : Graph) → ((i j : ℕ) → IsEdge g i j → IsEdge h i j) → (i j : ℕ) → Path g i j → Path h i j
path_grows g h f i j p = (p.0, chain_grows g h f (i ∷ (p.0 ++ j ∷ [])) p.1)

pub chain_join : (g : Graph) (xs ys : List ℕ) (j : ℕ) → IsChain g (xs ++ j ∷ []) → IsChain g (j ∷ ys)
    → IsChain g (xs ++ j ∷ ys)
chain_join g [] ys j a b = b
chain_join g (x ∷ []) ys j a b = (a.0, b)
chain_join g (x ∷ (y ∷ xs)) ys j a b = (a.0, chain_join g (y ∷ xs) ys j a.1 b)

pub edge_is_path : (g : Graph) (i j : ℕ) → IsEdge g i j → Path g i j
edge_is_path g i j e = ([], (e, tt))

pub paths_join : (g : Graph) (i j k : ℕ) → Path g i j → Path g j k → Path g i k
paths_join g i j k p q = (
  p.0 ++ j ∷ q.0,
  rw (append_assoc p.0 (j ∷ q.0) (k ∷ []))
      (chain_join g (i ∷ p.0) (q.0 ++ k ∷ []) j p.1 q.1),
)

-- if each edge leads among these systems, so does a path
pub path_among : (g : Graph) (joined : List Bool) → IsAmong joined g → (i j : ℕ) → Path g i j
    → IsTrue (has_joined joined i) × IsTrue (has_joined joined j)
path_among g joined among i j ([], c) = among i j c.0
path_among g joined among i j (k ∷ more, c) = grind (arith, among i k, path_among g joined among k j (more, c.1))

-- a chain of n edges ends in j, told from its last edge
abbrev pub Ends : Graph → ℕ → ℕ → Type 0
Ends g zero j = Unit {0}
Ends g (suc n) j = (i : ℕ) × (Ends g n i × IsEdge g i j)

-- without its first edge it is a shorter one
pub ends_less : (g : Graph) (n j : ℕ) → Ends g (suc n) j → Ends g n j
ends_less g zero j e = tt
ends_less g (suc n) j e = (e.0, (ends_less g n e.0 e.1.0, e.1.1))

pub ends_at_most : (g : Graph) (m n j : ℕ) → n ≤ m → Ends g m j → Ends g n j
ends_at_most g zero n j h e = grind arith
ends_at_most g (suc m) n j h e = grind (arith, cases_eq n (suc m), ends_at_most g m n j, ends_less g m j e)

-- a chain that goes on
ends_on : (g : Graph) (m i : ℕ) (between : List ℕ) (j : ℕ) → Ends g m i → IsChain g (i ∷ (between ++ j ∷ []))
    → Ends g (suc (m + length between)) j
ends_on g m i [] j e c = grind arith
ends_on g m i (k ∷ more) j e c = grind (arith, ends_on g (suc m) k more j (i, (e, c.0)) c.1)

pub ends_along : (g : Graph) (n i j : ℕ) → Ends g n i → Path g i j → Ends g (suc n) j
ends_along g n i j e p = ends_at_most g (suc (n + length p.0)) (suc n) j (omega arith) (ends_on g n i p.0 j e p.1)

-- a list of systems is such a chain
chain_ends : (g : Graph) (before : List ℕ) (j : ℕ) → IsChain g (before ++ j ∷ []) → Ends g (length before) j
chain_ends g [] j c = tt
chain_ends g (x ∷ xs) j c = grind (arith, ends_on g 0 x xs j tt c)

ends_chain : (g : Graph) (n j : ℕ) (more : List ℕ) → Ends g n j → IsChain g (j ∷ more) → (before : List ℕ)
    × ((length before ≡ n) × IsChain g (before ++ j ∷ more))
ends_chain g zero j more e c = ([], (refl, c))
ends_chain g (suc n) j more e c =
    let r = ends_chain g n e.0 (j ∷ more) e.1.0 (e.1.1, c) in
    (r.0 ++ e.0 ∷ [], simp (length-append, append_assoc) (omega (arith, r.1.0), r.1.1))

-- the batch number by chains told from their ends
pub number_ends : (g : Graph) (i n : ℕ) → IsBatchNumber g i n → Ends g n i × (Ends g (suc n) i → ⊥)
number_ends g i n b = (
  rw (b.reached.1.0) at (chain_ends g b.reached.0 i b.reached.1.1),
  λ e. grind (arith, ends_chain g (suc n) i [] e tt, b.longest),
)

pub ends_number : (g : Graph) (i n : ℕ) → Ends g n i → (Ends g (suc n) i → ⊥) → IsBatchNumber g i n
ends_number g i n e none = record {
  reached = ends_chain g n i [] e tt;
  longest = λ before c. grind (arith, ends_at_most g (length before) (suc n) i, chain_ends g before i c);
}

-- a system has one batch number, and it rises along a path
pub number_once : (g : Graph) (i m n : ℕ) → IsBatchNumber g i m → IsBatchNumber g i n → m ≡ n
number_once g i m n a b = grind arith

pub number_rises : (g : Graph) (i j m n : ℕ) → Path g i j → IsBatchNumber g i m → IsBatchNumber g j n → m < n
number_rises g i j m n p a b =
    grind (arith, number_ends g i m a, number_ends g j n b, ends_along g m i j, ends_at_most g (suc m) (suc n) j)
