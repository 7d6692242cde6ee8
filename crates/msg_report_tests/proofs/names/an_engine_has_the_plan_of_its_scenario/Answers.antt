use Rattle.std.proofs.Common.{inr}
use Rattle.msg_reading.specs.Prelude.{state_of}
use Rattle.msg_report_tests.proofs.names.an_engine_has_the_plan_of_its_scenario.Goals as goal

-- the engine of a scenario stands for its first state, so there is a plan of what it tells
pub expect_plans-requires-clause-orderly : goal.expect_plans-requires-clause-orderly
expect_plans-requires-clause-orderly g c =
    let stands = rw c.have-engine.ensures at c.sparing_engine.ensures.stands in
    rw c.have-arrangement.ensures at (c.arrangement.ensures.orderly (inr (state_of c.accepted-scenario.result, stands)))
