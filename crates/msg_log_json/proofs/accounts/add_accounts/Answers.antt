use Rattle.msg_log_json.specs.inner.KeptJson.{account_kept}
use Rattle.msg_log_json.proofs.Lists.{all_made, one_more}
use Rattle.msg_log_json.proofs.accounts.add_accounts.Goals as goal

pub loop-k-preserved : goal.loop-k-preserved
loop-k-preserved c =
    one_more (λ x. account_kept c.args.scenario.now c.args.world.now x.1) c.args.accounts.now c.loop-k.k _ _ _ _ _ c.loop-k.invariant c.in_ok-add_comma.ensures.appends
    c.in_ok-add_account.ensures.appends c.index-accounts-k.is c.loop-k-test.true

pub returns : goal.returns
returns c = record {
  appends = all_made (λ x. account_kept c.args.scenario.now c.args.world.now x.1) c.args.accounts.now c.loop-k.k _ _ c.loop-k.invariant c.loop-k-test.false;
}
