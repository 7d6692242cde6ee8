-- What loans stand for.
use Rattle.std.proofs.Common.{arith, ◌≡◌, true, false, refl, inr, Some, None, IsSome, IsTrue, option_map, if◌then◌else◌}
use Rattle.std.proofs.{Math.ListN.length-set, lemmas.Bool.false_from_ne_true, lemmas.Bool.cases_Bool, lemmas.Bool.false≢true, lemmas.Bool.Decides.eqb_tells, lemmas.Option.none-some}
use Rattle.msg_world.specs.Prelude.{Access, HomeMerges, Lent, LoanEnds, LoanStands, LoanStays, OfResource, OfType, Part, Registry, Values, ValuesStand, WorldState, WritesStand, after_signal, content, merge, signalled_marks, slot, writable, writes}
use Rattle.msg_world.proofs.Worlds.{at_set, same_shape, there_below, there_still, type_shape}

-- a loan of the registry, after a signal
pub signal_stands : {V : Type 0} {values : Values V} (l : Lent V) (s : WorldState values) → l.access.now.registry ≡ true → LoanStands l s
    → LoanStands (record l { taken = record l.taken { marks = option_map signalled_marks l.taken.marks } })
    (after_signal s)
signal_stands l s lent stand (OfType t) = stand (OfType t)
signal_stands l s lent stand (OfResource r) = stand (OfResource r)
signal_stands l s lent stand Registry = grind (arith, stand Registry)

-- ---- writing

-- a part that may be written is one that the access writes, and it is there
is_written : {V : Type 0} (p : Part) (l : Lent V) → IsSome (writable p l) → IsTrue (writes l.access.now p) × IsSome (slot p l.taken)
is_written p l there = grind (arith, cases_Bool, false≢true)

pub writes_are : {V : Type 0} {values : Values V} → WritesStand values
writes_are l t k there =
    let written = is_written (OfType t) l there in
    let lt = there_below l.taken.types t written.1 in (
      record { access = refl; world = refl; shape = type_shape l.taken t k lt written.1 },
      λ s h here stand. elim [
        | OfType u ↦ grind (arith, eqb_tells, written.0, at_set l.taken.types t k lt u, stand (OfType u))
        | OfResource r ↦ stand (OfResource r)
        | Registry ↦ stand Registry
      ],
    )

pub values_are_written : {V : Type 0} {values : Values V} → ValuesStand values
values_are_written l r z there =
    let written = is_written (OfResource r) l there in
    let lt = there_below l.taken.resources r written.1 in (
      record {
        access = refl;
        world = refl;
        shape = same_shape _ _ (record { types = refl; resources = length-set l.taken.resources r (Some z) }) (λ t. refl)
            (λ q. there_still _ r z lt written.1 q) refl;
      },
      λ s stand. elim [
        | OfType t ↦ stand (OfType t)
        | OfResource q ↦ grind (arith, eqb_tells, written.0, at_set l.taken.resources r z lt q, stand (OfResource q))
        | Registry ↦ stand Registry
      ],
    )

-- ---- side by side

pub loan_stays : (V : Type 0) → LoanStays V
loan_stays V a b world taken left others apart loan lends = record {
  size = grind (arith, loan.size, lends.left_size);
  written = loan.written;
  read = λ p read isnt.
      let free : writes b p ≡ false = false_from_ne_true (writes b p) (λ is.
      apart (p, inr (grind arith))) in
      grind (arith, free, lends.stayed p, loan.read p read isnt);
}

-- ---- coming home

pub content_merged : {V : Type 0} {values : Values V} (a : Access) (mine s : WorldState values) (p : Part) → content p (merge a mine s)
    ≡ (if writes a p then content p mine else content p s)
content_merged a mine s (OfType t) = refl
content_merged a mine s (OfResource r) = refl
content_merged a mine s Registry = refl

pub home_merges : {V : Type 0} {values : Values V} → HomeMerges values
home_merges a taken world home mine s none out back here there p =
    grind (arith, content_merged, none-some, none p, out p, back.joined p, here p, there p)

-- ---- a loan from its beginning to its end

pub loan_ends : {V : Type 0} {values : Values V} → LoanEnds values
loan_ends a old left taken begun ended lends of owns same =
    let shape = rw owns at same.shape in
    let none : (p : Part) → writes a p ≡ false → slot p ended.taken ≡ None =
    λ p isnt. grind (arith, shape.there p, lends.moved p) in
    let same_access : ended.access.now ≡ a = grind (arith, same.access, of) in (
      grind (arith, cases_Bool, false≢true, lends, shape),
      λ home back. (
        grind (arith, false≢true, lends, shape, back),
        λ s mine before after. home_merges a ended.taken left home mine s none (λ p is. grind (arith, lends.stayed p))
            back (λ p. grind (arith, none p, same_access, after p))
            (λ p. grind (arith, lends.stayed p, before p)),
      ),
    )
