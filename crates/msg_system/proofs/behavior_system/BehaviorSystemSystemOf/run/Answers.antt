use Rattle.std.proofs.Common.{◌≡◌, ◌++◌, append_assoc, drop, length, refl, rules, ◌∙◌}
use Rattle.std.proofs.Math.Seq.{drop-append_seam}
use Rattle.msg_system.specs.Prelude.{cut_after, needs_of, next_done}
use Rattle.msg_system.proofs.{Deciding.appended, Turns.cut_answers_none, Turns.ran_turn}
use Rattle.msg_system.proofs.behavior_system.BehaviorSystemSystemOf.run.Goals as goal

pub returns-clause-ran : goal.returns-clause-ran
returns-clause-ran g c =
    let b = g.B.Behavior in let m = b.memory c.args.self.now.behavior in
    let did = c.in_ok-ops.ensures in let over = did.over in let done = over.answered in
    let last = c.from_vec.ensures.items in
    let long : c.len-before.result ≡ length c.args.out.now.items = search rules in
    let told = appended _ _ _ _ done in
    let ends = rw (long, over.left_over, told) at c.in_ok-tell_cut.ensures.cut in
    let all : drop (length c.args.out.now.items) c.tell_cut.new.out.items ≡ done.0 ++ cut_after (b.next_op m) done.0 =
    rw (ends, done.1, append_assoc) (drop-append_seam c.args.out.now.items _) in
    let learns = rw (c.since.ensures.rest, c.as_slice.ensures.value, long, all) at c.in_ok-remember.ensures.remembers in
    let next = next_done (needs_of c.args.self.now.access) (b.next_op m) in
    let same = cut_answers_none next (b.next_op m done.0) done.0 over.none_done in
    ran_turn _ _ _ _ _ _ _ _ did.ran did.same c.into_taken.ensures.taken (done.0, done.1, last ∙ done.2, rw last done.3) ends
    (rw (learns, did.stays, last, done.2, same) refl)
