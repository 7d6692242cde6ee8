use Rattle.std.proofs.Common.{arith}
use Rattle.msg_exec.proofs.BatchGoesOut.{may_go, one_more_out}
use Rattle.msg_exec.proofs.batch.lend_out_all.Goals as goal

pub lend_out-requires : goal.lend_out-requires
lend_out-requires g c =
    let may = may_go g.S.SystemOf.meaning c.requires.batch.1 c.loop-system-test.true c.loop-system.invariant in
    grind (arith, may, c.in_ok-contents.ensures.empty)

pub loop-system-preserved : goal.loop-system-preserved
loop-system-preserved g c =
    rw c.in_ok-push.ensures.items (one_more_out g.S.SystemOf.meaning c.requires.batch.1 c.loop-system-test.true
    c.loop-system.invariant c.in_ok-lend_out.ensures.out)
