use Rattle.std.proofs.Common.{inr, refl}
use Rattle.std.proofs.lemmas.Result.{err_from_is_err_and}
use Rattle.serde_json.specs.View.{view}
use Rattle.msg_reading.proofs.FaultsOfScenarios.{cycle_is_fault}
use Rattle.msg_reading.proofs.ReadScenarioRuns.{whole_of}
use Rattle.msg_reading.proofs.read.read_value.Goals as goal

pub check_clashes-requires : goal.check_clashes-requires
check_clashes-requires c =
    let whole = whole_of (view c.args.value.now) _ c.in_ok-scenario.ensures.reads in
    record { few = rw c.as_slice.ensures.items whole.few_systems }

pub returns-in_err-check_clashes-clause-refused : goal.returns-in_err-check_clashes-clause-refused
returns-in_err-check_clashes-clause-refused c =
    let p =
    err_from_is_err_and c.from_residual-in_err-check_clashes.result c.from_residual-in_err-check_clashes.ensures.1 in
    let reads = c.in_ok-scenario.ensures.reads in
    let refused = c.in_err-check_clashes.ensures.refused in
    rw (p.1, p.2, refused.1)
    (inr (inr (c.in_ok-scenario.scenario, reads, refl, rw c.as_slice.ensures.items at refused.2)))

pub check_cycles-requires : goal.check_cycles-requires
check_cycles-requires c =
    let whole = whole_of (view c.args.value.now) _ c.in_ok-scenario.ensures.reads in record {
      few = rw c.as_slice-systems.ensures.items whole.few_systems;
      in_range = rw (c.as_slice-systems.ensures.items, c.as_slice-2.ensures.items) whole.rules_in_range;
    }

pub returns-in_err-check_cycles-clause-refused : goal.returns-in_err-check_cycles-clause-refused
returns-in_err-check_cycles-clause-refused c =
    let p =
    err_from_is_err_and c.from_residual-in_err-check_cycles.result c.from_residual-in_err-check_cycles.ensures.1 in
    let none = rw c.as_slice.ensures.items at c.in_ok-check_clashes.ensures.passed in
    let refused = rw c.as_slice-2.ensures.items at c.in_err-check_cycles.ensures.refused in
    rw (p.1, p.2) (cycle_is_fault (view c.args.value.now) c.in_ok-scenario.scenario _ c.in_ok-scenario.ensures.reads none refused)

pub returns : goal.returns
returns c =
    let reads = c.in_ok-scenario.ensures.reads in
    let none = rw c.as_slice.ensures.items at c.in_ok-check_clashes.ensures.passed in
    let acyclic = rw c.as_slice-2.ensures.items at c.in_ok-check_cycles.ensures.acyclic in record {
      ok = record { denotes = reads; no_clash = none; acyclic = acyclic };
      runnable = (whole_of (view c.args.value.now) _ reads).runnable none acyclic;
      refused = tt;
    }
