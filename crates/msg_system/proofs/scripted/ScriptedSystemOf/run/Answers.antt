use Rattle.msg_system.specs.Prelude.{cursor_places}
use Rattle.msg_system.proofs.Turns.{ran_program}
use Rattle.msg_system.proofs.scripted.ScriptedSystemOf.run.Goals as goal

pub returns-clause-ran : goal.returns-clause-ran
returns-clause-ran g c =
    let ran = rw c.as_slice-ops.ensures.items at c.in_ok-run_ops.ensures.ran in
    let replies = rw c.as_slice-ops.ensures.items at c.in_ok-run_ops.ensures.replies in
    ran_program c.args.self.now.program c.args.self.now.writer (cursor_places c.args.self.now.cursors)
    (cursor_places c.run_ops.new.cursors) c.args.lent c.run_ops.new.lent _ _ _ c.args.self.now.few
    ran replies c.in_ok-run_ops.ensures.same c.into_taken.ensures.taken
