use Rattle.msg_log_json.specs.Prelude.{writer_json}
use Rattle.msg_log_json.proofs.Lists.{all_made, one_more}
use Rattle.msg_log_json.proofs.accounts.add_writers.Goals as goal

pub loop-k-preserved : goal.loop-k-preserved
loop-k-preserved c =
    one_more (λ x. writer_json c.args.scenario.now x.1) c.args.writers.now c.loop-k.k _ _ _ _ _ c.loop-k.invariant c.in_ok-add_comma.ensures.appends
    c.in_ok-add_writer.ensures.appends c.index-writers-k.is c.loop-k-test.true

pub returns : goal.returns
returns c = record {
  appends = all_made (λ x. writer_json c.args.scenario.now x.1) c.args.writers.now c.loop-k.k _ _ c.loop-k.invariant c.loop-k-test.false;
}
