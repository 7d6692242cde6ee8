-- Which op of a turn writes which part.
use Rattle.std.proofs.Common.{◌≡◌, ℕ, ◌+◌, ◌-◌, ◌<◌, ◌≤◌, ◌++◌, add-zero, suc, zero, List, [], ◌∷◌, length, map, refl, sym, ap, ◌∙◌, arith, append_assoc, inl, inr, Option, Some, None, option_map, option_to_list, slice_get, take}
use Rattle.std.proofs.Math.Seq.{drop-append_seam}
use Rattle.std.proofs.lemmas.List.{length-append, length-map, length-take-le, take_more}
use Rattle.std.proofs.lemmas.Option.{none-some, same_Some, slice_get_cases}
use Rattle.msg_buffer.proofs.Numbers.{slice_get-drop}
use Rattle.msg_system.specs.{declared.op.Op.Op, declared.reply.Reply.Reply, Prelude.refused_in}
use Rattle.msg_function.specs.declared.port.Port.{Port}
use Rattle.msg_function.specs.declared.port.Port.TheVariants.{Messages, Resource}
use Rattle.msg_function.specs.Functions.{Answer, read_op, write_op, written_op, written_ops}
use Rattle.msg_function.proofs.Steps.{written_ops-push}

-- behind a list
pub slice_get-behind : {X : Type 0} (xs ys : List X) (k : ℕ) → slice_get (xs ++ ys) (length xs + k) ≡ slice_get ys k
slice_get-behind xs ys k = sym (slice_get-drop (length xs) (xs ++ ys) k) ∙ ap (λ zs. slice_get zs k) (drop-append_seam xs ys)

module _ {V : Type 0} where
  -- ---- how many ops write

  -- no values are written by no op, and others by one
  pub none_written : (port : Port) (values : List V) → length values ≡ 0 → written_op port values ≡ []
  none_written port [] none = refl
  none_written port (v ∷ values) none = absurd (omega (arith, none))

  pub one_written : (port : Port) (values : List V) → 0 < length values
      → (last : V) × (written_op port values ≡ write_op port values last ∷ [])
  one_written port values some = elim (slice_get_cases values (length values - 1)).1 [
    | inl found ↦ (found.0, rw found.2 refl)
    | inr past ↦ absurd (omega (arith, some, past.0))
  ]

  -- there are no more writes than parts that are written
  one_write : (port : Port) (values : List V) (o : Option V) → length (option_to_list (option_map (write_op port values) o)) ≤ 1
  one_write port values None = omega arith
  one_write port values (Some last) = omega arith

  pub few_writes : (ports : List Port) (answer : Answer V) → length (written_ops ports answer) ≤ length ports
  few_writes [] answer = omega arith
  few_writes (port ∷ ports) answer =
      let here = one_write port (answer 0) (slice_get (answer 0) (length (answer 0) - 1)) in
      omega (arith, here, length-append (written_op port (answer 0)) (written_ops ports (λ k. answer (suc k))), few_writes ports (λ k. answer (suc k)))

  -- those of one part more
  pub more_written : (ports : List Port) (answer : Answer V) (k count : ℕ) → k < length ports
      → ((port : Port) → count ≡ length (written_op port (answer k)))
      → length (written_ops (take (k + 1) ports) answer) ≡ length (written_ops (take k ports) answer) + count
  more_written ports answer k count lt is = elim (slice_get_cases ports k).1 [
    | inl found ↦
        let one : take (k + 1) ports ≡ take k ports ++ found.0 ∷ [] = rw (take_more ports k found.0 lt, found.3) refl in
        rw (one, written_ops-push, length-append, length-take-le k ports (omega (arith, lt)), ← is found.0) refl
    | inr past ↦ absurd (omega (arith, lt, past.0))
  ]

  -- ---- where they stand

  -- the op of a part stands behind those of the parts before it
  written_there : (ports : List Port) (answer : Answer V) (k : ℕ) (port : Port) → slice_get ports k ≡ Some port
      → (rest : List (Op V)) × (written_ops ports answer ≡ written_ops (take k ports) answer ++ (written_op port (answer k) ++ rest))
  written_there [] answer k port is = absurd (none-some port is)
  written_there (x ∷ ports) answer zero port is =
      (written_ops ports (λ j. answer (suc j)), ap (λ p. written_op p (answer 0) ++ written_ops ports (λ j. answer (suc j))) (same_Some x port is))
  written_there (x ∷ ports) answer (suc k) port is =
      let far = written_there ports (λ j. answer (suc j)) k port is in (
        far.0,
        ap (λ ops. written_op x (answer 0) ++ ops) far.1
            ∙ sym (append_assoc (written_op x (answer 0)) (written_ops (take k ports) (λ j. answer (suc j))) _),
      )

  pub written_at : (ports : List Port) (answer : Answer V) (k : ℕ) (port : Port) → slice_get ports k ≡ Some port → 0 < length (answer k)
      → (last : V) × (slice_get (written_ops ports answer) (length (written_ops (take k ports) answer)) ≡ Some (write_op port (answer k) last))
  written_at ports answer k port is some =
      let there = written_there ports answer k port is in
      let one = one_written port (answer k) some in (
        one.0,
        rw (there.1, one.1) (rw add-zero at (slice_get-behind (written_ops (take k ports) answer) (write_op port (answer k) one.0 ∷ there.0) 0)),
      )

  -- ---- what ops that read are refused: nothing

  pub refused_of_reads : (ports : List Port) (ys : List (Op V)) (k : ℕ) (reply : Reply V) → k < length ports
      → refused_in (map read_op ports ++ ys) k reply ≡ None
  refused_of_reads [] ys k reply lt = absurd (omega (arith, lt))
  refused_of_reads (Messages t ∷ ports) ys zero reply lt = refl
  refused_of_reads (Resource r ∷ ports) ys zero reply lt = refl
  refused_of_reads (port ∷ ports) ys (suc k) reply lt = refused_of_reads ports ys k reply (omega (arith, lt))

  pub refused_behind_reads : (ports : List Port) (ys : List (Op V)) (k : ℕ) (reply : Reply V)
      → refused_in (map read_op ports ++ ys) (length ports + k) reply ≡ refused_in ys k reply
  refused_behind_reads ports ys k reply =
      let behind = slice_get-behind (map (read_op {V = V}) ports) ys k in
      rw (rw length-map at behind) refl
