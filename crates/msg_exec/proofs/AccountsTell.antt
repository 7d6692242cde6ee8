-- Accounts tell what readers were given, and the numbers in them are exact.
use Rattle.std.proofs.Common.{◌≡◌, ℕ, ◌+◌, ◌<◌, Bool, None, Some, if◌then◌else◌, List, ◌++◌, append-nil, append_assoc, map, option_to_list, arith, subst, All}
use Rattle.std.specs.List.{filter, range_with_len}
use Rattle.std.proofs.lemmas.{Bool.cases_Bool, List.map-append, List.Elements.Contains-get_or, List.Elements.filter-append}
use Rattle.msg_order.proofs.Elements.{filter-Contains, flat_map-Contains, map-Contains, range-Contains, range_more}
use Rattle.msg_frames.specs.Prelude.{AddsUp, IsSoundState, State, account_of, accounts_of, accounts_of_system, is_reader}
use Rattle.msg_world.specs.Prelude.{Values}

-- ---- one account

module _ {V : Type 0} {values : Values V} where
  pub adds_up : (s : State values) (i t : ℕ) → t < s.types → IsSoundState s → AddsUp (account_of s i t)
  adds_up s i t lt sound = grind (arith, cases_Bool)

-- ---- those of one system

-- what there is of type n is appended
pub one_more : {X : Type 0} (is_there : ℕ → Bool) (told : ℕ → X) (n : ℕ) (xs : List X) {before : List X}
    → before ≡ xs ++ map told (filter is_there (range_with_len 0 n))
    → before ++ option_to_list (if is_there n then Some (told n) else None)
    ≡ xs ++ map told (filter is_there (range_with_len 0 (n + 1)))
one_more is_there told n xs far =
    grind (arith, cases_Bool, range_more, filter-append, map-append, append-nil, append_assoc, far)

-- ---- all of them add up

module _ {V : Type 0} {values : Values V} where
  pub all_add_up : (s : State values) → IsSoundState s → All AddsUp (accounts_of s)
  all_add_up s sound k d lt =
      let i = flat_map-Contains (accounts_of_system s) _ _ (Contains-get_or (accounts_of s) k d lt) in
      let t = map-Contains (account_of s i.0) _ _ i.1.1 in
      let below = range-Contains 0 s.types t.0 (filter-Contains (is_reader s i.0) _ _ t.1.0).0 in
      subst AddsUp t.1.1 (adds_up s i.0 t.0 (omega (arith, below.1)) sound)
