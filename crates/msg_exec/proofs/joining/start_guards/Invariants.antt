use Rattle.std.proofs.Common.{◌≡◌, ◌++◌, map, take, drop}
use Rattle.msg_system.specs.Prelude.{asked_started}
use Rattle.msg_exec.proofs.joining.start_guards.Given as goal

abbrev pub invariant-loop-guard : goal.invariant-loop-guard
invariant-loop-guard g l =
    l.guards ≡ map (asked_started l.start l.counts) (take l.guard-index l.initial.guards)
    ++ drop l.guard-index l.initial.guards
