use Rattle.std.proofs.Common.{◌≡◌, map, take, drop}
use Rattle.msg_world.specs.Prelude.{LoanStands, WorldState}
use Rattle.msg_system.specs.Prelude.{after_asking, all_hold}
use Rattle.msg_system.proofs.guard.Guard.check_all.Given as goal

abbrev pub invariant-loop-guard : goal.invariant-loop-guard
invariant-loop-guard g l = record {
  answer : (s : WorldState g.V.Value.values) → LoanStands l.lent s → l.all ≡ all_hold (take l.guard-index l.initial.guards) s;
  moved : (s : WorldState g.V.Value.values) → LoanStands l.lent s → take l.guard-index l.guards
      ≡ map (after_asking s) (take l.guard-index l.initial.guards);
  same : map (λ a. a.condition) l.guards ≡ map (λ a. a.condition) l.initial.guards;
  rest : drop l.guard-index l.guards ≡ drop l.guard-index l.initial.guards;
}
