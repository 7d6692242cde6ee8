-- The rows of users, and what they tell of conflicts.
use Rattle.std.proofs.Common.{Bool, IsTrue, List, arith, false, inl, inr, length, take, ℕ, ◌&&◌, ◌+◌, ◌<◌, ◌==◌, ◌||◌, ◌≡◌, ◌⊎◌}
use Rattle.std.proofs.lemmas.{Bool.cases_Bool, Bool.cases_eq, Bool.cases_lt, Bool.or_cases, Bool.Decides.eqb_tells, List.get_or-take, List.get_or_past, List.length-take}
use Rattle.msg_world.specs.{declared.part.Part.Part, declared.part.Part.TheVariants.OfType, declared.part.Part.TheVariants.OfResource, declared.part.Part.TheVariants.Registry, Prelude.Conflict, Prelude.uses, Prelude.writes, declared.access.Access.Access}
use Rattle.msg_world.proofs.Bits.{has_bit-or}
use Rattle.msg_order.specs.{Prelude.access_of, Prelude.has_joined, declared.users.Users.Users, inner.SystemSet.has, inner.Users.AreUsers, inner.Users.IsInConflict, inner.Users.readers_of, inner.Users.writers_of}
use Rattle.msg_order.proofs.SystemSets.{has-no_set}

-- one more system has been looked at
pub joined_more : (joined : List Bool) (i k : ℕ) → i < length joined
    → has_joined (take (i + 1) joined) k ≡ (has_joined (take i joined) k || (has_joined joined i && k == i))
joined_more joined i k h =
    let before = get_or_past (take i joined) k false in
    let after = get_or_past (take (i + 1) joined) k false in
    grind (arith, cases_lt k i, cases_eq k i, eqb_tells, get_or-take, before, after, length-take)

module _ (accesses : List Access) (joined : List Bool) (users : Users) (are : AreUsers accesses joined users)
    (a : Access) (k : ℕ) where
  abbrev pub b : Access
  b = access_of accesses k

  -- k is a user of the part, and the access or k writes it
  abbrev pub meets : Part → Bool
  meets p = (writes a p && has (readers_of users p) k) || (uses a p && has (writers_of users p) k)

  meets_at : (p : Part) → IsTrue (meets p) → IsTrue (has_joined joined k) × Conflict a b
  meets_at p m =
      (grind (arith, cases_Bool, m, are.read p k, are.written p k), (p, grind (arith, cases_Bool, m, are.read p k, are.written p k)))

  -- it is in one of the rows that `in_conflict_with` goes through
  abbrev pub Meet : Type 0
  Meet = (IsInConflict users.read_types users.write_types a.read_types a.write_types k
      ⊎ IsInConflict users.read_res users.write_res a.read_res a.write_res k)
      ⊎ IsTrue (a.registry && has users.registry k)

  pub meet_conflict : Meet → IsTrue (has_joined joined k) × Conflict a b
  meet_conflict (inl (inl (inl u))) = meets_at (OfType u.0) (grind (arith, cases_Bool, u.1))
  meet_conflict (inl (inl (inr u))) = meets_at (OfType u.0) (grind (arith, cases_Bool, has_bit-or, u.1))
  meet_conflict (inl (inr (inl u))) = meets_at (OfResource u.0) (grind (arith, cases_Bool, u.1))
  meet_conflict (inl (inr (inr u))) = meets_at (OfResource u.0) (grind (arith, cases_Bool, has_bit-or, u.1))
  meet_conflict (inr r) = meets_at Registry (grind (arith, cases_Bool, r))

  meet_at : (p : Part) → IsTrue (meets p) → Meet
  meet_at (OfType t) m = elim (or_cases _ _ m) [
    | inl r ↦ inl (inl (inl (t, r)))
    | inr w ↦ inl (inl (inr (t, grind (arith, cases_Bool, has_bit-or, w))))
  ]
  meet_at (OfResource t) m = elim (or_cases _ _ m) [
    | inl r ↦ inl (inr (inl (t, r)))
    | inr w ↦ inl (inr (inr (t, grind (arith, cases_Bool, has_bit-or, w))))
  ]
  meet_at Registry m = inr (grind (arith, cases_Bool, has-no_set, m))

  pub conflict_meet : IsTrue (has_joined joined k) → Conflict a b → Meet
  conflict_meet j c = meet_at c.0 (grind (arith, cases_Bool, j, c.1, are.read c.0 k, are.written c.0 k))
