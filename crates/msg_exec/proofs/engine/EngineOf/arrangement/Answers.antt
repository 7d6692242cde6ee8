use Rattle.std.proofs.Common.{◌≡◌, ◌∙◌, Some, ap, is_some}
use Rattle.std.proofs.lemmas.List.FromFn.{fill_by_all}
use Rattle.msg_world.specs.Prelude.{Values}
use Rattle.msg_system.specs.Prelude.{Meaning}
use Rattle.msg_frames.proofs.Functions.{orderly_of}
use Rattle.msg_frames.specs.Prelude.{State}
use Rattle.msg_exec.specs.Prelude.{Core, CoreStands, EngineOf, EngineStands}
use Rattle.msg_exec.proofs.EngineRunsFrames.{accesses_of, stood}
use Rattle.msg_exec.proofs.engine.EngineOf.arrangement.Goals as goal

core_is : {S V : Type 0} {values : Values V} (meaning : S → Meaning V) (e : EngineOf S V) (core : Core S V) (s : State values)
    → e.core ≡ Some core → EngineStands meaning e s → CoreStands meaning core s
core_is meaning e core s is stands = rw is at stands.core

pub returns-in-Some-clause-arranged : goal.returns-in-Some-clause-arranged
returns-in-Some-clause-arranged g c s stands =
    let core = core_is g.S.SystemOf.meaning c.args.self.now c.in-Some.core s c.in-Some.is stands in
    let joins = core.fixed.joins in
    record {
      accesses = rw c.deref.ensures.value (accesses_of g.S.SystemOf.meaning core);
      joins = c.deref-in-Some.ensures.value ∙ fill_by_all (λ i. (s.members i).join) _ s.systems 0 joins.as_many joins.each;
      rules = c.deref-in-Some-2.ensures.value ∙ core.fixed.rules;
      types = c.types.ensures.types ∙ core.lender.types;
      resources = c.resources.ensures.resources ∙ core.lender.resources;
    }

pub returns-in-Some-clause-orderly : goal.returns-in-Some-clause-orderly
returns-in-Some-clause-orderly g c is =
    let stands = stood g.S.SystemOf.meaning c.args.self.now (ap is_some c.in-Some.is) is in
    let core = core_is g.S.SystemOf.meaning c.args.self.now c.in-Some.core stands.0 c.in-Some.is stands.1 in
    orderly_of stands.0 _ (returns-in-Some-clause-arranged g c stands.0 stands.1) core.fixed.few core.fixed.named core.sound.no_cycle
