-- What a world stands for after each change, part by part.
use Rattle.std.proofs.Common.{◌≡◌, ℕ, ◌<◌, Bool, true, false, List, length, map, refl, sym, ◌∙◌, arith, inl, inr, Option, Some, None, get_or, ◌&&◌, ◌||◌, ◌↔◌, not, IfSome, IsSome, IsSomeAnd, IsTrue, is_some, unwrap_or, slice_index, if◌then◌else◌, ◌==◌, replicate, slice_set}
use Rattle.std.specs.{Option.option_or, declared.boxed.Box.Box}
use Rattle.std.proofs.{Math.ListN.length-set, lemmas.Bool.Decides.eqb_tells}
use Rattle.std.proofs.lemmas.Bool.{cases_eq, cases_lt, false_from_ne_true, false≢true}
use Rattle.std.proofs.lemmas.List.{get_or_default, get_or-set_same, get_or-set_other, get_or_past, get_or-map, length-map, length-replicate}
use Rattle.msg_buffer.specs.Prelude.{History, Kept, StandsFor, empty}
use Rattle.msg_world.specs.Prelude.{Access, IsHome, IsWhole, Marks, OfResource, OfType, Parts, PartsStand, Record, Registry, SameShape, SameSize, TakesBack, Values, WorldState, after_update, has_bit, new_world, uses, with_history}
use Rattle.msg_world.specs.{declared.taken.MovedOut.MovedOut, inner.Slots.AllUpdated, inner.Slots.BufferStands, inner.Slots.HaveEach, inner.Slots.at, inner.Moved.AreEmptyOf, inner.Moved.MovesHome, inner.Moved.MovesOut, inner.Taken.slots_of}
use Rattle.msg_world.proofs.PartsMove.{equal_items}

-- parts are of one shape, kind by kind
pub same_shape : {V : Type 0} (old new : Parts V) → SameSize old new
    → ((t : ℕ) → is_some (at new.types t) ≡ is_some (at old.types t))
    → ((r : ℕ) → is_some (at new.resources r) ≡ is_some (at old.resources r)) → is_some new.marks ≡ is_some old.marks
    → SameShape old new
same_shape old new size types resources marks =
    record { size = size; there = elim [ OfType t ↦ types t | OfResource r ↦ resources r | Registry ↦ marks ] }

-- a world and parts of which the marks were set
pub marks_stand : {V : Type 0} {values : Values V} (w : Parts V) (s : WorldState values) (m : Marks) → PartsStand w s
    → PartsStand (record w { marks = Some m }) (record s { marks = m })
marks_stand w s m stand = elim [ OfType t ↦ stand (OfType t) | OfResource r ↦ stand (OfResource r) | Registry ↦ refl ]

-- the marks of a whole world are those that it stands for
marks_are : {V : Type 0} {values : Values V} (w : Parts V) (s : WorldState values) (m : Marks) → w.marks ≡ Some m → PartsStand w s → m ≡ s.marks
marks_are w s m is stand = grind (arith, stand Registry)

pub waiting_stays : {V : Type 0} {values : Values V} (w : Parts V) (s : WorldState values) (m : Marks) → w.marks ≡ Some m → true ≡ (m.held && not m.pending)
    → PartsStand w s → PartsStand w (after_update s)
waiting_stays w s m is waiting stand p = grind (arith, marks_are w s m is stand, stand p)

-- what isn't waiting is updated
pub others_update : {V : Type 0} {values : Values V} (w : Parts V) (s : WorldState values) (types : List (Option (Kept (Record V)))) (m n : Marks) → w.marks ≡ Some m
    → false ≡ (m.held && not m.pending) → n ≡ record m { pending = false }
    → AllUpdated w.types types → PartsStand w s
    → PartsStand (record { types = types; resources = w.resources; marks = Some n }) (after_update s)
others_update w s types m n is waiting spent all stand =
    let marks = marks_are w s m is stand in
    elim [
      | OfType t ↦ grind (arith, marks, all.updated t (s.histories t) (stand (OfType t)))
      | OfResource r ↦ grind (arith, marks, stand (OfResource r))
      | Registry ↦ grind (arith, marks)
    ]

-- ---- a new world

-- what `World::new` made
module _ {V : Type 0} (values : Values V) (limits : List ℕ) (starts : List V)
    (types : List (Option (Kept (Record V))))
    (as_many : length types ≡ length limits)
    (stand : (t : ℕ) → t < length limits
    → IsSomeAnd (at types t) (λ k. StandsFor k (empty (slice_index limits t)))) where
  abbrev some_of : V → Option V
  some_of z = Some z

  abbrev made : Parts V
  made =
      record {
        types = types;
        resources = map some_of starts;
        marks = Some (record { held = false; pending = false });
      }

  pub new_stands : PartsStand made (new_world values limits starts)
  new_stands (OfType t) = grind (arith, cases_lt t (length limits), stand t, get_or_past types t None)
  new_stands (OfResource r) =
      grind (arith, cases_lt r (length starts), get_or-map some_of starts r values.some None, get_or_past, length-map)
  new_stands Registry = refl

  pub new_whole : IsWhole made
  new_whole (OfType t) lt = grind (arith, stand t)
  new_whole (OfResource r) lt = grind (arith, get_or-map some_of starts r values.some None, length-map)
  new_whole Registry has = refl

-- ---- a post

-- what is read at a slot
pub item_at : {X : Type 0} (xs : List (Option X)) (i : ℕ) (o : Option X) → i < length xs → o ≡ get_or xs i o
    → at xs i ≡ o
item_at xs i o lt read = get_or_default xs i None o lt ∙ sym read

-- a slot that isn't empty is one of them
pub there_below : {X : Type 0} (xs : List (Option X)) (i : ℕ) → IsSome (at xs i) → i < length xs
there_below xs i there = grind (arith, cases_lt, false≢true, get_or_past)

-- what is at each slot after one was filled
pub at_set : {X : Type 0} (xs : List (Option X)) (i : ℕ) (x : X) → i < length xs → (k : ℕ)
    → at (slice_set xs i (Some x)) k ≡ (if k == i then Some x else at xs k)
at_set xs i x lt k =
    grind (arith, eqb_tells, cases_eq k i, get_or-set_same xs i (Some x) None lt, get_or-set_other xs i k (Some x) None)

-- if one was filled that wasn't empty, the same slots are empty
pub there_still : {X : Type 0} (xs : List (Option X)) (i : ℕ) (x : X) → i < length xs → IsSome (at xs i) → (k : ℕ)
    → is_some (at (slice_set xs i (Some x)) k) ≡ is_some (at xs k)
there_still xs i x lt there k = grind (arith, eqb_tells, at_set xs i x lt k)

pub type_stands : {V : Type 0} {values : Values V} (w : Parts V) (s : WorldState values) (t : ℕ) (k : Kept (Record V)) (h : History (Record V)) → t < length w.types
    → StandsFor k h → PartsStand w s
    → PartsStand (record w { types = slice_set w.types t (Some k) }) (with_history s t h)
type_stands w s t k h lt here stand (OfType u) =
    grind (arith, eqb_tells, at_set w.types t k lt u, stand (OfType u))
type_stands w s t k h lt here stand (OfResource r) = stand (OfResource r)
type_stands w s t k h lt here stand Registry = stand Registry

pub type_shape : {V : Type 0} (w : Parts V) (t : ℕ) (k : Kept (Record V)) → t < length w.types → IsSome (at w.types t)
    → SameShape w (record w { types = slice_set w.types t (Some k) })
type_shape w t k lt there =
    same_shape w _ (record { types = length-set w.types t (Some k); resources = refl })
    (λ u. there_still w.types t k lt there u) (λ r. refl) refl

-- ---- lending and taking back

-- what goes with a job that moves nothing out
spare_slots : {V A X : Type 0} (slots : MovedOut V → List (Option X)) (n : ℕ) (P : MovedOut V → Type 0)
    (b : Option (Box (MovedOut V) A)) → ((m : MovedOut V) → P m → AreEmptyOf n (slots m)) → IfSome b (λ b. P b.value)
    → AreEmptyOf n (slots_of slots n b)
spare_slots slots n P None of spare = record { number = length-replicate n None; empty = λ k. equal_items n None k }
spare_slots slots n P (Some b) of spare = of b.value spare

-- and nothing is, if its mask has no bits
pub none_out : {V A X : Type 0} (slots : MovedOut V → List (Option X)) (P : MovedOut V → Type 0) (mask : ℕ)
    (xs : List (Option X)) (b : Option (Box (MovedOut V) A)) → ((m : MovedOut V) → P m → AreEmptyOf (length xs) (slots m))
    → IfSome b (λ b. P b.value) → ((k : ℕ) → ¬ IsTrue (has_bit mask k))
    → MovesOut mask xs xs (slots_of slots (length xs) b)
none_out slots P mask xs b of spare none =
    let empty = spare_slots slots (length xs) P b of spare in
    let clear : (k : ℕ) → has_bit mask k ≡ false = λ k. false_from_ne_true (has_bit mask k) (none k) in
    record {
      moved = λ k. grind (arith, clear k, empty.empty k);
      left = λ k. grind (arith, clear k);
      moved_len = empty.number;
      left_len = refl;
    }

-- nothing comes home of slots that are empty
pub none_home : {T : Type 0} (n : ℕ) (xs : List (Option T)) → MovesHome (replicate n None) xs xs
none_home {T} n xs = record { joined = λ k. grind (arith, equal_items {X = Option T} n None k); len = refl }

-- what was moved out is in a world again: its types, its resources and its marks
pub taken_back : {V : Type 0} (taken old new : Parts V) → MovesHome taken.types old.types new.types
    → MovesHome taken.resources old.resources new.resources
    → new.marks ≡ option_or taken.marks old.marks → TakesBack taken old new
taken_back taken old new types resources marks = record {
  joined = elim [ OfType t ↦ types.joined t | OfResource r ↦ resources.joined r | Registry ↦ marks ];
  size = record { types = types.len; resources = resources.len };
}

-- ---- what is home

-- The tests of each kind of part say whether all is home.
pub home_by_tests : {V : Type 0} (a : Access) (w : Parts V) (types resources marks : Bool)
    → IsTrue types ↔ HaveEach w.types (λ t. uses a (OfType t))
    → IsTrue resources ↔ HaveEach w.resources (λ r. uses a (OfResource r)) → marks ≡ is_some w.marks
    → IsTrue ((types && resources) && (not a.registry || marks)) ↔ IsHome a w
home_by_tests a w types resources marks t r m = (
  λ all. elim [ OfType k ↦ t.0 (grind arith) k | OfResource k ↦ r.0 (grind arith) k | Registry ↦ λ used. grind arith ],
  λ home. grind (arith, t.1 (λ k. home (OfType k)), r.1 (λ k. home (OfResource k)), home Registry),
)

-- ---- what a world stands for

-- A view of parts stands for some world if each of its buffers, as they were read, stands for some history.
pub some_state : {V : Type 0} {values : Values V} (v w : Parts V) (types : List (Option (Kept (Record V)))) → w ≡ v → types ≡ w.types
    → ((t : ℕ) → t < length types → (h : History (Record V)) × BufferStands (at types t) h)
    → (s : WorldState values) × PartsStand v s
some_state {V} {values} v w types same read each = rw (← same) (
  record {
    histories = λ t. (chosen t).0;
    resources = λ r. unwrap_or (at w.resources r) values.some;
    marks = unwrap_or w.marks (record { held = false; pending = false });
  },
  elim [ OfType t ↦ rw (← read) (chosen t).1 | OfResource r ↦ grind arith | Registry ↦ grind arith ],
)
  where
    chosen : (t : ℕ) → (h : History (Record V)) × BufferStands (at types t) h
    chosen t = elim (cases_lt t (length types)) [
      | inl lt ↦ each t lt
      | inr past ↦ rw (get_or_past types t None past) (empty 0, tt)
    ]
