use Rattle.std.proofs.Common.{◌≡◌, filter, take}
use Rattle.msg_function.specs.{Functions.answered, Functions.nothing, Functions.put_all, Ready.values_of}
use Rattle.msg_function.proofs.ready.filter.FilterFunction11.answer.Given as goal

abbrev pub invariant-loop-message : goal.invariant-loop-message
invariant-loop-message g l = record {
  same : l.self ≡ l.initial.self;
  written : answered l.outbox
      ≡ put_all 0 (filter (g.T.Test.passes l.initial.self.test) (values_of (take l.message-index l.message-items))) nothing;
}
