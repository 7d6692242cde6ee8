use Rattle.msg_log_json.specs.Prelude.{turn_json}
use Rattle.msg_log_json.proofs.Lists.{all_made, one_more}
use Rattle.msg_log_json.proofs.turn.add_turns.Goals as goal

pub loop-k-preserved : goal.loop-k-preserved
loop-k-preserved c =
    one_more (λ x. turn_json c.args.scenario.now x.1) c.args.turns.now c.loop-k.k _ _ _ _ _ c.loop-k.invariant c.in_ok-add_comma.ensures.appends
    c.in_ok-add_turn.ensures.appends c.index-turns-k.is c.loop-k-test.true

pub returns : goal.returns
returns c = record {
  appends = all_made (λ x. turn_json c.args.scenario.now x.1) c.args.turns.now c.loop-k.k _ _ c.loop-k.invariant c.loop-k-test.false;
}
