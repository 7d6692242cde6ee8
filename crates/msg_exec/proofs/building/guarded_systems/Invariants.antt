use Rattle.std.proofs.Common.{◌≡◌, length}
use Rattle.msg_exec.specs.Prelude.{EachIs}
use Rattle.msg_exec.specs.inner.EngineParts.{IsGuardedAt}
use Rattle.msg_exec.proofs.building.guarded_systems.Given as goal

abbrev pub invariant-loop-system : goal.invariant-loop-system
invariant-loop-system g l = record {
  as_many : length l.guarded.items ≡ length l.yielded;
  guarded : EachIs (IsGuardedAt g.S.SystemOf.meaning l.yielded l.places) l.guarded.items;
}
