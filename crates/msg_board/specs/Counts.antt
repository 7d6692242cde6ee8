-- How often a number stands in a list.
use Rattle.std.specs.Prelude.{◌≡◌, ℕ, ◌<◌, ◌≤◌, ◌==◌, Bool, false, List, Option, Some, None, count_by}

-- how often k stands in the list
abbrev pub times : ℕ → List ℕ → ℕ
times k numbers = count_by (λ n. n == k) numbers

-- whether it is k that is held
abbrev pub is_held : ℕ → Option ℕ → Bool
is_held k None = false
is_held k (Some n) = n == k

-- the list has each number below n exactly once, and no other
pub record HoldsEachOnce (n : ℕ) (numbers : List ℕ) : Type 0 where
  pub once : (k : ℕ) → k < n → times k numbers ≡ 1
  pub no_other : (k : ℕ) → n ≤ k → times k numbers ≡ 0
