-- The ports of a system.
use Rattle.std.proofs.Common.{◌≡◌, ◌||◌, ◌&&◌, ◌++◌, ◌<◌, ◌+◌, ℕ, List, [], ◌∷◌, All, IsSome, IsTrue, arith, get_or, inl, inr, length, map, refl, sym, suc, zero, take, Option, Some, None, option_and_then, option_map, option_to_list, slice_get}
use Rattle.std.proofs.lemmas.Bool.{and_parts, cases_Bool}
use Rattle.std.proofs.lemmas.List.{take_more, Folds.list_any-append, Folds.list_any_at}
use Rattle.msg_world.specs.{declared.lent.Lent.Lent, declared.part.Part.Part, Prelude.same_part, Prelude.shown, Prelude.writable}
use Rattle.msg_system.specs.{declared.op.Op.Op, Prelude.Covers, Prelude.is_resource, Prelude.type_read_by}
use Rattle.msg_function.specs.declared.port.Port.{Port}
use Rattle.msg_function.specs.declared.port.Port.TheVariants.{Messages, Resource}
use Rattle.msg_function.specs.Functions.{Answer, part_of, port_type, ports_needs, read_op, some_port_is, write_op, written_ops}
use Rattle.msg_system.proofs.{Lendings.writable_is_shown, Runs.same_part_refl}

-- one port more
pub some_port-more : (ports : List Port) (i : ℕ) (port : Port) (p : Part) → i < length ports → port ≡ get_or ports i port
    → some_port_is (take (i + 1) ports) p ≡ (same_part p (part_of port) || some_port_is (take i ports) p)
some_port-more ports i port p lt is =
    let one : take (i + 1) ports ≡ take i ports ++ port ∷ [] = rw (take_more ports i port lt, ← is) refl in
    rw one (grind (arith, list_any-append))

-- ---- what a loan that covers a system has of its ports

some_port_at : (ports : List Port) (i : ℕ) (d : Port) → i < length ports → IsTrue (some_port_is ports (part_of (get_or ports i d)))
some_port_at ports i d lt =
    let p : Part = part_of (get_or ports i d) in
    list_any_at (λ port. same_part p (part_of port)) ports i d lt (same_part_refl p)

shown_part : {V : Type 0} (reads writes : List Port) (l : Lent V) (p : Part) → Covers (ports_needs reads writes) l
    → IsTrue (some_port_is reads p) → IsSome (shown p l)
shown_part reads writes l p covers h =
    elim (cases_Bool (is_resource p && some_port_is writes p)) [
      | inl both ↦
          let there = covers.writes p (and_parts _ _ both).1 in
          rw (writable_is_shown p l there) there
      | inr other ↦ covers.reads p (grind (arith, h, other))
    ]

pub shown_each : {V : Type 0} (reads writes : List Port) (l : Lent V) → Covers (ports_needs reads writes) l
    → All (λ port. IsSome (shown (part_of port) l)) reads
shown_each reads writes l covers i d lt = shown_part reads writes l _ covers (some_port_at reads i d lt)

pub writable_each : {V : Type 0} (reads writes : List Port) (l : Lent V) → Covers (ports_needs reads writes) l
    → All (λ port. IsSome (writable (part_of port) l)) writes
writable_each reads writes l covers i d lt = covers.writes _ (some_port_at writes i d lt)

-- ---- the types that the ops of a turn read

module _ {V : Type 0} where
  one_reads_none : (port : Port) (values : List V) (o : Option V) (ys : List (Op V)) → ((i : ℕ) → type_read_by ys i ≡ None) → (i : ℕ)
      → type_read_by (option_to_list (option_map (write_op port values) o) ++ ys) i ≡ None
  one_reads_none port values None ys rest i = rest i
  one_reads_none (Messages t) values (Some last) ys rest zero = refl
  one_reads_none (Resource r) values (Some last) ys rest zero = refl
  one_reads_none port values (Some last) ys rest (suc i) = rest i

  writes_read_none : (ports : List Port) (answer : Answer V) (i : ℕ) → type_read_by (written_ops ports answer) i ≡ None
  writes_read_none [] answer i = refl
  writes_read_none (port ∷ ports) answer i = one_reads_none port (answer 0) _ _ (writes_read_none ports (λ k. answer (suc k))) i

  types_before : (ports : List Port) (ys : List (Op V)) → ((i : ℕ) → type_read_by ys i ≡ None) → (k : ℕ)
      → type_read_by (map read_op ports ++ ys) k ≡ option_and_then port_type (slice_get ports k)
  types_before [] ys none k = none k
  types_before (Messages t ∷ ports) ys none zero = refl
  types_before (Resource r ∷ ports) ys none zero = refl
  types_before (port ∷ ports) ys none (suc k) = types_before ports ys none k

  pub types_read : (reads writes : List Port) (answer : Answer V) (k : ℕ)
      → option_and_then port_type (slice_get reads k) ≡ type_read_by (map read_op reads ++ written_ops writes answer) k
  types_read reads writes answer k = sym (types_before reads _ (writes_read_none writes answer) k)
