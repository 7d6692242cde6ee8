use Rattle.std.proofs.Common.{arith}
use Rattle.msg_function.proofs.Lists.{longer_in}
use Rattle.msg_function.proofs.outbox.Outbox.write.Goals as goal

pub returns : goal.returns
returns g c = record {
  put = longer_in (λ list. list.items) c.args.self.now.lists.items c.args.k c.index_mut.result.now c.push.new.self _
      (omega (arith, c.args.self.now.one_each, c.requires.there)) c.index_mut.ensures.value c.in_ok-push.ensures.items;
}
