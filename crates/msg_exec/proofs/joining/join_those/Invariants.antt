use Rattle.std.proofs.Common.{◌≡◌, length}
use Rattle.msg_exec.specs.Prelude.{AreJoins, LenderStands}
use Rattle.msg_exec.specs.inner.SystemsOut.{HaveReadNothing}
use Rattle.msg_frames.specs.Prelude.{State}
use Rattle.msg_exec.proofs.SystemsJoin.{joined_below}
use Rattle.msg_exec.proofs.joining.join_those.Given as goal

abbrev pub invariant-loop-i : goal.invariant-loop-i
invariant-loop-i g l = record {
  so_far : (s : State g.V.Value.values) → LenderStands g.S.SystemOf.meaning l.initial.lender s → AreJoins l.joins s
      → HaveReadNothing l.frame s
      → LenderStands g.S.SystemOf.meaning l.lender (joined_below l.i l.frame s);
  systems : length l.lender.systems.items ≡ length l.initial.lender.systems.items;
  totals : length l.lender.totals.items ≡ length l.initial.lender.totals.items;
  accesses : l.lender.accesses ≡ l.initial.lender.accesses;
  world : l.lender.world ≡ l.initial.lender.world;
}
