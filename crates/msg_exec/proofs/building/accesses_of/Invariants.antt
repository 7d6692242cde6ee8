use Rattle.std.proofs.Common.{◌≡◌, length}
use Rattle.msg_exec.specs.Prelude.{EachIs}
use Rattle.msg_exec.specs.inner.EngineParts.{IsAccessAt}
use Rattle.msg_exec.proofs.building.accesses_of.Given as goal

abbrev pub invariant-loop-i : goal.invariant-loop-i
invariant-loop-i g l = record {
  as_many : length l.accesses.items ≡ l.i;
  accesses : EachIs (IsAccessAt g.S.SystemOf.meaning l.systems l.places) l.accesses.items;
}
