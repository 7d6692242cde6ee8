use Rattle.std.proofs.Common.{append_assoc, ◌≡◌, ◌+◌, ◌<◌, ◌++◌, ◌∷◌, [], ℕ, List, arith, get_or, length, refl, take}
use Rattle.std.proofs.lemmas.Grind.{common_steps}
use Rattle.std.proofs.lemmas.List.{length_push, take_all, take_more}
use Rattle.std.proofs.lemmas.Result.{MatchResult-from_err}
use Rattle.msg_world.specs.{Prelude.SameLoan, declared.lent.Lent.Lent}
use Rattle.msg_system.specs.Prelude.{Covers, Op, op_needs, program_needs}
use Rattle.msg_system.proofs.Runs.{after_program-snoc, op_more, same_loan_trans}
use Rattle.msg_system.proofs.scripted.run_ops.Goals as goal

-- a loan that covers a program covers each of its ops
covers_op : {V : Type 0} (ops : List (Op V)) (i : ℕ) (op : Op V) (l m : Lent V) → i < length ops → op ≡ get_or ops i op → SameLoan l m
    → Covers (program_needs ops) l → Covers (op_needs op) m
covers_op ops i op l m lt is same covers = grind (arith, common_steps)

pub answer-requires : goal.answer-requires
answer-requires g c =
    let inv = c.loop-op.invariant in
    record {
      covers = covers_op _ _ _ _ _ c.loop-op-test.true c.op-item.is inv.same c.requires.covers;
      room = omega (arith, inv.long, inv.room);
    }

pub returns-in_err-reserve_exact-clause-refused : goal.returns-in_err-reserve_exact-clause-refused
returns-in_err-reserve_exact-clause-refused g c =
    MatchResult-from_err _ _ _ c.from_residual.ensures.0 (λ e. omega (arith, c.in_err-reserve_exact.ensures.full, c.args.out.now.ok, c.args.out.now.small))

pub loop-op-preserved : goal.loop-op-preserved
loop-op-preserved g c =
    let inv = c.loop-op.invariant in
    let did = c.in_ok-answer.ensures.answered in
    let ops = c.args.ops.now in
    let one : take (c.loop-op.op-index + 1) ops ≡ take c.loop-op.op-index ops ++ c.op-item.result ∷ [] =
    rw (take_more ops c.loop-op.op-index c.op-item.result (omega arith), ← c.op-item.is) refl in
    record {
      so_far = λ s stands. rw (did.appended, one, after_program-snoc)
          (op_more c.op-item.result _ _ _ _ _ _ _ _ _ (inv.so_far s stands) did.ran);
      replies = (
        inv.replies.0 ++ did.reply ∷ [],
        rw (did.appended, inv.replies.1, append_assoc) refl,
        rw (length_push, inv.replies.2) refl,
      );
      same = same_loan_trans _ _ _ inv.same c.in_ok-answer.ensures.same;
      long = omega (arith, inv.long, c.in_ok-answer.ensures.long);
      room = rw c.in_ok-answer.ensures.capacity inv.room;
    }

pub returns-clause-ran : goal.returns-clause-ran
returns-clause-ran g c s stands =
    rw (take_all c.loop-op.op-index c.args.ops.now (omega arith), c.reserve_exact.ensures.items)
    at (c.loop-op.invariant.so_far s stands)
