use Rattle.std.proofs.Common.{◌≡◌, map, take}
use Rattle.msg_function.specs.{Functions.answered, Functions.written_ops, inner.Runs.OpsRan}
use Rattle.msg_function.proofs.outbox.Outbox.write_lists.Given as goal

abbrev pub invariant-loop-k : goal.invariant-loop-k
invariant-loop-k g l = record {
  ran : OpsRan g.V.Value.values (written_ops (take l.k l.ports) (answered l.initial.self)) l.initial.me l.me
      l.initial.lent l.lent l.initial.out.items l.out.items;
  stays : map (λ list. list.items) l.self.lists.items ≡ map (λ list. list.items) l.initial.self.lists.items;
}
