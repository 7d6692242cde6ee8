-- The masks of two accesses tell whether they conflict. The masks of an access that clashes share a bit.
use Rattle.std.proofs.Common.{arith, ℕ, Bool, false, ◌&&◌, ◌||◌, inl, inr, ◌⊎◌, ◌↔◌, IsTrue, bit_or}
use Rattle.std.proofs.lemmas.Bool.{or_cases, false≢true}
use Rattle.msg_world.specs.{Prelude.Access, Prelude.Conflict, Prelude.IsClash, Prelude.OfResource, Prelude.OfType, Prelude.Part, Prelude.Registry, Prelude.reads, Prelude.uses, Prelude.writes, inner.Masks.ShareBit, inner.Masks.Collide}
use Rattle.msg_world.proofs.Bits.{has_bit-or}

-- the tests of two pairs of masks say whether they collide
pub collides : (r w s v : ℕ) (first second : Bool) → IsTrue first ↔ ShareBit w (bit_or s v)
    → IsTrue second ↔ ShareBit v (bit_or r w) → IsTrue (first || second) ↔ Collide r w s v
collides r w s v first second f g = (
  λ t. elim (or_cases first second t) [
    | inl is ↦ let b = f.0 is in (b.0, inl (rw (has_bit-or s v b.0) at b.1))
    | inr is ↦ let b = g.0 is in (b.0, inr (rw (has_bit-or r w b.0) at b.1))
  ],
  λ c. elim c.1 [
    | inl h ↦ grind (arith, f.1 (c.0, rw (has_bit-or s v c.0) h))
    | inr h ↦ grind (arith, g.1 (c.0, rw (has_bit-or r w c.0) h))
  ],
)

-- tests of types, of resources and of the registry say whether there is such a part
module _ (P : Part → Type 0) (types resources registry : Bool) (t : IsTrue types ↔ ((k : ℕ) × P (OfType k)))
    (r : IsTrue resources ↔ ((k : ℕ) × P (OfResource k))) (m : IsTrue registry ↔ P Registry) where
  found : (p : Part) → P p → IsTrue ((types || resources) || registry)
  found (OfType k) h = grind (arith, t.1 (k, h))
  found (OfResource k) h = grind (arith, r.1 (k, h))
  found Registry h = grind (arith, m.1 h)

  some_part : IsTrue ((types || resources) || registry) ↔ ((p : Part) × P p)
  some_part = (
    λ h. elim (or_cases (types || resources) registry h) [
      | inr g ↦ (Registry, m.0 g)
      | inl e ↦ elim (or_cases types resources e) [
        | inl x ↦ let c = t.0 x in (OfType c.0, c.1)
        | inr x ↦ let c = r.0 x in (OfResource c.0, c.1)
      ]
    ],
    λ c. found c.0 c.1,
  )

-- the tests of the masks say whether the two accesses conflict
pub conflicts_lem : (a b : Access) (types resources : Bool) → IsTrue types
    ↔ Collide a.read_types a.write_types b.read_types b.write_types
    → IsTrue resources ↔ Collide a.read_res a.write_res b.read_res b.write_res
    → IsTrue ((types || resources) || (a.registry && b.registry)) ↔ Conflict a b
conflicts_lem a b types resources t r =
    some_part (λ p. IsTrue (writes a p && uses b p) ⊎ IsTrue (writes b p && uses a p)) types resources _ t r
    (λ h. inl h, λ h. grind arith)

-- and whether one clashes
pub clashes : (a : Access) (types resources : Bool) → IsTrue types ↔ ShareBit a.read_types a.write_types
    → IsTrue resources ↔ ShareBit a.read_res a.write_res → IsTrue (types || resources) ↔ IsClash a
clashes a types resources t r =
    let some = some_part (λ p. IsTrue (reads a p && writes a p)) types resources false t r
    (λ h. absurd (false≢true h), λ h. h) in
    (λ h. some.0 (grind (arith, h)), λ c. grind (arith, some.1 c))
