-- The test for a path, which grows edge by edge, says whether there is one.
use Rattle.std.proofs.Common.{Bool, [], arith, false, sym, true, ℕ, ◌∙◌, ◌∷◌, ◌≡◌}
use Rattle.std.proofs.lemmas.{Bool.false_from_ne_true, Bool.false≢true, Bool.Decides.eqb_tells}
use Rattle.msg_order.specs.{Graph.path, Prelude.Graph, Prelude.IsEdge, Prelude.Path}
use Rattle.msg_order.proofs.{Chains.edge_is_path, Chains.path_grows, Chains.paths_join, Elements.Contains-cases, Elements.Contains-head, Elements.Contains-tail, Elements.not_in_none}

pub edge_path : (g : Graph) (i j : ℕ) → IsEdge g i j → path g i j ≡ true
edge_path [] i j h = absurd (not_in_none (i, j) h)
edge_path (e ∷ g) i j h = grind (arith, eqb_tells, Contains-cases e g (i, j) h, edge_path g i j)

pub path_trans : (g : Graph) (i j k : ℕ) → path g i j ≡ true → path g j k ≡ true → path g i k ≡ true
path_trans [] i j k p q = p
path_trans (e ∷ g) i j k p q = grind (arith, eqb_tells, path_trans g)

pub from_Path : (g : Graph) (i j : ℕ) → Path g i j → path g i j ≡ true
from_Path g i j ([], c) = edge_path g i j c.0
from_Path g i j (k ∷ more, c) = path_trans g i k j (edge_path g i k c.0) (from_Path g k j (more, c.1))

pub to_Path : (g : Graph) (i j : ℕ) → path g i j ≡ true → Path g i j
to_Path [] i j h = absurd (false≢true h)
to_Path (e ∷ g) i j h =
    let newest : Path (e ∷ g) e.0 e.1 = edge_is_path (e ∷ g) e.0 e.1 (Contains-head e g) in
    let stays = λ (a b : ℕ) (p : path g a b ≡ true). path_grows g (e ∷ g) (λ c d. Contains-tail e g (c, d)) a b (to_Path g a b p) in
    grind (arith, eqb_tells, newest, stays, paths_join (e ∷ g) i e.0 e.1, paths_join (e ∷ g) i e.1 j)

-- if the test fails there is no path, and the other way round
pub no_Path : (g : Graph) (i j : ℕ) → path g i j ≡ false → Path g i j → ⊥
no_Path g i j f p = false≢true (sym f ∙ from_Path g i j p)

pub no_path : (g : Graph) (i j : ℕ) → (Path g i j → ⊥) → path g i j ≡ false
no_path g i j f = false_from_ne_true (path g i j) (λ t. f (to_Path g i j t))

-- two tests that hold at the same places
pub same_test : (a b : Bool) → (a ≡ true → b ≡ true) → (b ≡ true → a ≡ true) → a ≡ b
same_test a b f h = grind arith

-- graphs with the same edges have the same paths
pub same_paths : (g h : Graph) → ((i j : ℕ) → IsEdge g i j → IsEdge h i j) → ((i j : ℕ) → IsEdge h i j → IsEdge g i j)
    → (i j : ℕ) → path g i j ≡ path h i j
same_paths g h f k i j = grind (arith, same_test, from_Path, path_grows g h f, path_grows h g k, to_Path)
