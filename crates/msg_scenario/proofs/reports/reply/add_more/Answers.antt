use Rattle.std.proofs.Common.{arith}
use Rattle.std.proofs.lemmas.{Grind.common_steps, List.take_all, List.FromFn.length-enumerate_from}
use Rattle.msg_scenario.specs.Prelude.{next_item}
use Rattle.msg_json.proofs.NumberedPieces.{numbered_more}
use Rattle.msg_scenario.proofs.reports.reply.add_more.Goals as goal

pub loop-k-preserved : goal.loop-k-preserved
loop-k-preserved c =
    numbered_more (next_item c.args.scenario.now) c.args.first c.args.items.now c.loop-k.k _ _ _ _ _
    c.loop-k.invariant c.in_ok-add_item.ensures (omega (arith, c.from-first.ensures)) c.loop-k-test.true

pub returns-clause-appends : goal.returns-clause-appends
returns-clause-appends c = grind (arith, common_steps, take_all, length-enumerate_from)
