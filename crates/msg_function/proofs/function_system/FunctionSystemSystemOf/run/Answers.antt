use Rattle.std.proofs.Common.{◌≡◌, ◌++◌, arith, drop, length, rules, take}
use Rattle.std.proofs.Math.Seq.{take-append_seam}
use Rattle.msg_function.specs.Functions.{answered}
use Rattle.msg_function.proofs.FunctionTurns.{function_ran}
use Rattle.msg_system.proofs.Runs.{same_loan_trans}
use Rattle.msg_function.proofs.Steps.{still_writable}
use Rattle.msg_function.proofs.Uses.{shown_each, writable_each}
use Rattle.msg_function.proofs.function_system.FunctionSystemSystemOf.run.Goals as goal

pub read_ports-requires : goal.read_ports-requires
read_ports-requires g c = record { shown = rw c.as_slice.ensures.items (shown_each _ _ _ c.requires.covers) }

pub answer-requires : goal.answer-requires
answer-requires g c =
    let long : c.len-before.result ≡ length c.args.out.now.items = search rules in
    let first = rw c.as_slice.ensures.items at c.in_ok-read_ports.ensures.ran in
    search rules

pub write_lists-requires : goal.write_lists-requires
write_lists-requires g c =
    let same = c.in_ok-read_ports.ensures.ran.same in (
      omega arith,
      (
        rw c.as_slice-writes.ensures.items c.args.self.now.within,
        rw c.as_slice-writes.ensures.items (λ i d lt. still_writable _ _ _ same (writable_each _ _ _ c.requires.covers i d lt)),
      ),
    )

pub returns-clause-shape : goal.returns-clause-shape
returns-clause-shape g c =
    rw c.into_taken.ensures.taken
    ((same_loan_trans _ _ _ c.in_ok-read_ports.ensures.ran.same c.in_ok-write_lists.ensures.ran.same).shape)

pub returns-clause-ran : goal.returns-clause-ran
returns-clause-ran g c =
    let self = c.args.self.now in
    let long : c.len-before.result ≡ length c.args.out.now.items = search rules in
    let made = rw (c.since.ensures.rest, c.as_slice-2.ensures.value, c.as_slice-3.ensures.value, long) at c.in_ok-answer.ensures.answers in
    let first = rw c.as_slice.ensures.items at c.in_ok-read_ports.ensures.ran in
    let second = rw c.as_slice-writes.ensures.items at c.in_ok-write_lists.ensures.ran in
    let far : c.len-read.result ≡ length c.read_ports.new.out.items = search rules in
    let noted = rw (
      c.since-written.ensures.rest,
      c.as_slice-4.ensures.value,
      c.as_slice-writes.ensures.items,
      c.in_ok-write_lists.ensures.stays,
      far,
    ) at c.note_refused.ensures.noted in
    let many : self.refused.len ≡ length c.note_refused.new.refused =
    omega (arith, self.one_each, c.note_refused.auto.refused) in
    let kept : take self.refused.len (c.note_refused.new.refused ++ drop (length c.note_refused.new.refused) self.refused.items) ≡ c.note_refused.new.refused =
    rw many (take-append_seam c.note_refused.new.refused _) in
    rw (kept, c.in_ok-write_lists.ensures.stays)
    (function_ran g.T.Function.answers self.reads self.writes self.few
    (record { memory = self.function; refused = self.refused.items }) self.start
    _ _ _ _ _ _ _ _ _ _ _ _ (answered c.answer.new.outbox) _ first made second noted c.into_taken.ensures.taken)
