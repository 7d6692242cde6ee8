use Rattle.std.proofs.Common.{◌∷◌, [], ◌∙◌, arith}
use Rattle.std.proofs.lemmas.{List.take_all, List.take_more, List.Elements.All-push}
use Rattle.msg_exec.proofs.BatchAfterBatch.{as_many_systems, turned_more}
use Rattle.msg_exec.proofs.batch.run_turns.Goals as goal

pub run_turn-requires : goal.run_turn-requires
run_turn-requires g c =
    let k = c.loop-system.system-index in
    let far = c.loop-system.invariant.turned _ c.requires.stands.1.0 in
    record { stands = (_, (far.state, rw as_many_systems (c.requires.stands.1.1 k 0 c.loop-system-test.true))) }

pub loop-system-preserved : goal.loop-system-preserved
loop-system-preserved g c =
    let ran = c.in_ok-run_turn.ensures in
    let next = take_more c.args.systems.now c.loop-system.system-index 0 c.loop-system-test.true in
    record {
      accesses = ran.accesses ∙ c.loop-system.invariant.accesses;
      passed = rw next (All-push (g.G.Gate.passed c.args.gate.now 0) _ _ c.loop-system.invariant.passed
          c.pass.ensures.passed);
      turned = λ s stands.
          rw next (turned_more g.S.SystemOf.meaning (_ ∷ []) (c.loop-system.invariant.turned s stands) ran.turned);
    }

pub returns-clause-turned : goal.returns-clause-turned
returns-clause-turned g c s stands = grind (arith, take_all, c.loop-system.invariant.turned s stands)
