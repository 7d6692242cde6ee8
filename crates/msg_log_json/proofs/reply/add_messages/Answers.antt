use Rattle.std.proofs.lemmas.List.{get_or_default}
use Rattle.msg_log_json.specs.Prelude.{message_json}
use Rattle.msg_log_json.proofs.Lists.{all_made, one_more}
use Rattle.msg_log_json.proofs.reply.add_messages.Goals as goal

pub loop-k-preserved : goal.loop-k-preserved
loop-k-preserved c =
    one_more (λ x. message_json c.args.scenario.now x.1) c.args.items.now c.loop-k.k _ _ _ _ _ c.loop-k.invariant c.in_ok-add_comma.ensures.appends
    c.in_ok-add_message.ensures (get_or_default _ _ _ _ c.loop-k-test.true) c.loop-k-test.true

pub returns : goal.returns
returns c = record {
  appends = all_made (λ x. message_json c.args.scenario.now x.1) c.args.items.now c.loop-k.k _ _ c.loop-k.invariant c.loop-k-test.false;
}
