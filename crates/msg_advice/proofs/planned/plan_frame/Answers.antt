use Rattle.std.proofs.lemmas.Result.{IfOk-weaker}
use Rattle.msg_reading.specs.Prelude.{state_of}
use Rattle.msg_advice.proofs.{Orders.arrangement_tells, Tables.few_parts}
use Rattle.msg_advice.proofs.planned.plan_frame.Goals as goal

pub returns : goal.returns
returns c =
    let s = c.args.scenario.now in
    record {
      plan = IfOk-weaker c.plan_arrangement.result _ _
          (λ plan planned. arrangement_tells (state_of s) c.arrangement_of.result c.args.frame plan
          (few_parts s c.requires.runnable) c.arrangement_of.ensures.arranged c.requires.some planned)
          c.plan_arrangement.ensures.plan;
    }
