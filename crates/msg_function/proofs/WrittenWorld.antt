-- What an answer leaves of a world.
use Rattle.std.proofs.Common.{◌≡◌, ◌≢◌, ℕ, ◌-◌, ◌<◌, ◌≤◌, ◌+◌, ◌++◌, List, [], ◌∷◌, Some, ap, append-nil, arith, drop, get_or, length, map, refl, slice_get, subst, suc, sym, take, zero, ◌∙◌}
use Rattle.std.proofs.Math.Seq.{drop-append_seam, get_or-append_seam}
use Rattle.std.proofs.lemmas.Bool.{Decides.nat_tests, cases_Bool, eq-eqb, ne_eqb}
use Rattle.std.proofs.lemmas.List.{length-append, length-map}
use Rattle.std.proofs.lemmas.Option.{none-some, same_Some, slice_get-get_or}
use Rattle.msg_buffer.specs.Prelude.{write}
use Rattle.msg_world.specs.declared.part.Part.{Part}
use Rattle.msg_world.specs.declared.part.Part.TheVariants.{OfResource, OfType, Registry}
use Rattle.msg_world.specs.World.{Content}
use Rattle.msg_world.specs.Prelude.{Values, WorldState, by, content}
use Rattle.msg_system.specs.Prelude.{AfterProgram, Meaning, after_op, after_program, numbers_for, turn, write_reply}
use Rattle.msg_system.specs.declared.{limits.TheConstants.MAX_OPS, op.Op.Op, start.Start.Start}
use Rattle.msg_system.specs.declared.op.Op.TheVariants.{Set}
use Rattle.msg_system.proofs.Turns.{one_reply_each}
use Rattle.msg_function.specs.declared.port.Port.{Port}
use Rattle.msg_function.specs.declared.port.Port.TheVariants.{Messages, Resource}
use Rattle.msg_function.specs.Functions.{Answer, AnswerIsWritten, FunctionOf, IsOnlyAt, IsWritten, Kept, made_on, of_function, part_of, read_op, write_op, written_op, written_ops}
use Rattle.msg_function.proofs.{FunctionTurns.is_whole, Steps.after_program-append, Steps.joined, Written.one_written, Written.slice_get-behind}

-- two ports of one part are the same
same_port : (p q : Port) → part_of p ≡ part_of q → p ≡ q
same_port p q e = grind (arith, e)

-- a port that is one behind the first isn't the first
not_first : (q : Port) (ports : List Port) (k : ℕ) (port : Port) → IsOnlyAt (q ∷ ports) (suc k) port → part_of q ≢ part_of port
not_first q ports k port at e = absurd (omega (arith, at.1 zero (ap Some (same_port q port e))))

only_behind : (q : Port) (ports : List Port) (k : ℕ) (port : Port) → IsOnlyAt (q ∷ ports) (suc k) port → IsOnlyAt ports k port
only_behind q ports k port at = (at.0, λ j here. omega (arith, at.1 (suc j) here))

last_is : {X : Type 0} (earlier : List X) (last : X) (xs : List X) (d : X) → xs ≡ earlier ++ last ∷ [] → get_or xs (length xs - 1) d ≡ last
last_is earlier last xs d is =
    let n : length (earlier ++ last ∷ []) - 1 ≡ length earlier = omega (arith, length-append earlier (last ∷ [])) in
    rw (is, n) (get_or-append_seam earlier last [] d)

module _ {V : Type 0} (w : ℕ) where
  -- what values make of what a world has of a port's part
  abbrev changed : (port : Port) → List V → Content V (part_of port) → Content V (part_of port)
  changed (Messages t) xs h = write (map (by w) xs) h
  changed (Resource r) xs z = get_or xs (length xs - 1) z

module _ {V : Type 0} {values : Values V} (w : ℕ) where
  -- ---- one port

  one_changes : (port : Port) (xs : List V) (ps : ℕ → ℕ) (s : WorldState values)
      → content (part_of port) (after_program (written_op port xs) w ps s).world ≡ changed w port xs (content (part_of port) s)
  one_changes (Messages t) [] ps s = grind (arith, append-nil, cases_Bool)
  one_changes (Messages t) (x ∷ xs) ps s = rw ((one_written (Messages t) (x ∷ xs) (omega arith)).1, eq-eqb t t refl) refl
  one_changes (Resource r) [] ps s = refl
  one_changes (Resource r) (x ∷ xs) ps s =
      let last : V = get_or (x ∷ xs) (length (x ∷ xs) - 1) (s.resources r) in
      let one : written_op (Resource r) (x ∷ xs) ≡ Set r last ∷ [] = rw (slice_get-get_or (x ∷ xs) (length (x ∷ xs) - 1) (s.resources r) (omega arith)) refl in
      rw (one, eq-eqb r r refl) refl

  op_keeps : (port : Port) (xs : List V) (last : V) (ps : ℕ → ℕ) (s : WorldState values) (p : Part) → part_of port ≢ p
      → content p (after_op (write_op port xs last) w ps s).world ≡ content p s
  op_keeps (Messages t) xs last ps s (OfType u) ne = rw (ne_eqb u t (λ e. ne (ap OfType (sym e)))) refl
  op_keeps (Messages t) xs last ps s (OfResource q) ne = refl
  op_keeps (Messages t) xs last ps s Registry ne = refl
  op_keeps (Resource r) xs last ps s (OfResource q) ne = rw (ne_eqb q r (λ e. ne (ap OfResource (sym e)))) refl
  op_keeps (Resource r) xs last ps s (OfType u) ne = refl
  op_keeps (Resource r) xs last ps s Registry ne = refl

  -- a part to which nothing is answered stays as it was
  one_keeps : (port : Port) (xs : List V) (ps : ℕ → ℕ) (s : WorldState values) (p : Part) → (part_of port ≡ p → xs ≡ [])
      → content p (after_program (written_op port xs) w ps s).world ≡ content p s
  one_keeps port [] ps s p un = refl
  one_keeps port (x ∷ xs) ps s p un =
      let one = one_written port (x ∷ xs) (omega arith) in
      rw one.1 (op_keeps port (x ∷ xs) one.0 ps s p (λ e. grind (arith, un e)))

  -- ---- all ports

  others_stay : (ports : List Port) (answer : Answer V) (ps : ℕ → ℕ) (s : WorldState values) (p : Part)
      → ((k : ℕ) (port : Port) → slice_get ports k ≡ Some port → part_of port ≡ p → answer k ≡ [])
      → content p (after_program (written_ops ports answer) w ps s).world ≡ content p s
  others_stay [] answer ps s p un = refl
  others_stay (port ∷ ports) answer ps s p un =
      rw after_program-append
      (others_stay ports (λ k. answer (suc k)) _ _ p (λ k. un (suc k)) ∙ one_keeps port (answer 0) ps s p (un 0 port refl))

  -- a part of one port is changed by what is answered to that
  only_changes : (ports : List Port) (answer : Answer V) (ps : ℕ → ℕ) (s : WorldState values) (k : ℕ) (port : Port) → IsOnlyAt ports k port
      → content (part_of port) (after_program (written_ops ports answer) w ps s).world ≡ changed w port (answer k) (content (part_of port) s)
  only_changes [] answer ps s k port at = absurd (none-some port at.0)
  only_changes (q ∷ ports) answer ps s zero port at =
      let behind = others_stay ports (λ k. answer (suc k)) _ _ (part_of port)
      (λ j other here same. absurd (omega (arith, at.1 (suc j) (here ∙ ap Some (same_port other port same))))) in
      let here = subst (λ other. content (part_of port) (after_program (written_op other (answer 0)) w ps s).world ≡ changed w port (answer 0) (content (part_of port) s))
      (sym (same_Some q port at.0)) (one_changes port (answer 0) ps s) in
      rw after_program-append (behind ∙ here)
  only_changes (q ∷ ports) answer ps s (suc k) port at =
      let kept = one_keeps q (answer 0) ps s (part_of port) (λ e. absurd (not_first q ports k port at e)) in
      rw after_program-append
      (only_changes ports (λ j. answer (suc j)) _ _ k port (only_behind q ports k port at) ∙ ap (changed w port (answer (suc k))) kept)

  -- ---- the reply to a write

  reply_at : (ports : List Port) (answer : Answer V) (ps : ℕ → ℕ) (s : WorldState values) (k t : ℕ) → IsOnlyAt ports k (Messages t) → 0 < length (answer k)
      → slice_get (after_program (written_ops ports answer) w ps s).replies (length (written_ops (take k ports) answer))
      ≡ Some (write_reply (numbers_for (s.histories t) (length (answer k))))
  reply_at [] answer ps s k t at some = absurd (none-some (Messages t) at.0)
  reply_at (q ∷ ports) answer ps s zero t at some =
      rw (same_Some q (Messages t) at.0, after_program-append, (one_written (Messages t) (answer 0) some).1, length-map) refl
  reply_at (q ∷ ports) answer ps s (suc k) t at some =
      let first : AfterProgram values = after_program (written_op q (answer 0)) w ps s in
      let front : List (Op V) = written_ops (take k ports) (λ j. answer (suc j)) in
      let many : length (written_op q (answer 0) ++ front) ≡ length first.replies + length front =
      length-append _ _ ∙ ap (λ n. n + length front) (sym (one_reply_each (written_op q (answer 0)) w ps s)) in
      let kept = one_keeps q (answer 0) ps s (OfType t) (λ e. absurd (not_first q ports k (Messages t) at e)) in
      rw (after_program-append, many)
      (slice_get-behind first.replies _ (length front)
      ∙ reply_at ports (λ j. answer (suc j)) first.places first.world k t (only_behind q ports k (Messages t) at) some
      ∙ ap (λ h. Some (write_reply (numbers_for h (length (answer (suc k)))))) kept)

  -- ---- reads, and then writes

  reads_leave : (reads : List Port) (ps : ℕ → ℕ) (s : WorldState values) → (after_program (map read_op reads) w ps s).world ≡ s
  reads_leave [] ps s = refl
  reads_leave (Messages t ∷ reads) ps s = reads_leave reads _ s
  reads_leave (Resource r ∷ reads) ps s = reads_leave reads _ s

  written : (writes : List Port) (answer : Answer V) (ps : ℕ → ℕ) (s : WorldState values) →
      let done : AfterProgram values = after_program (written_ops writes answer) w ps s in
      IsWritten writes answer w s done.world done.replies
  written writes answer ps s = record {
    value = λ k r earlier last at is.
        only_changes writes answer ps s k (Resource r) at ∙ last_is earlier last (answer k) (s.resources r) is;
    messages = λ k t at. only_changes writes answer ps s k (Messages t) at;
    refused = λ k t at some. grind (arith, nat_tests, cases_Bool, some, reply_at writes answer ps s k t at some);
    others = others_stay writes answer ps s;
  }

pub answer_written : {V M : Type 0} {values : Values V} (answers : FunctionOf V M) (reads writes : List Port) (kept : Kept M) (start : Start) (w : ℕ)
    (ps : ℕ → ℕ) (last : List (Op V)) (s : WorldState values) → length reads + length writes ≤ MAX_OPS
    → AnswerIsWritten answers reads writes kept (of_function answers reads writes kept start w ps last) s
answer_written {V} {M} {values} answers reads writes kept start w ps last s few =
    let m : Meaning V = of_function answers reads writes kept start w ps last in
    let answer : Answer V = (made_on answers reads writes kept m s).1 in
    let read : AfterProgram values = after_program (map read_op reads) w ps s in
    let done : AfterProgram values = after_program (written_ops writes answer) w read.places read.world in
    let is : turn m s ≡ joined read done =
    (is_whole answers reads writes few kept start w ps last s).is ∙ after_program-append (map read_op reads) (written_ops writes answer) w ps s in
    let many : length read.replies ≡ length reads = one_reply_each (map read_op reads) w ps s ∙ length-map _ _ in
    let told : drop (length reads) (read.replies ++ done.replies) ≡ done.replies = rw (← many) (drop-append_seam read.replies done.replies) in
    let left = subst (λ v. IsWritten writes answer w v done.world done.replies) (reads_leave w reads ps s) (written w writes answer read.places read.world) in
    subst (λ (e : AfterProgram values). IsWritten writes answer w s e.world (drop (length reads) e.replies)) (sym is)
    (subst (λ rs. IsWritten writes answer w s done.world rs) (sym told) left)
