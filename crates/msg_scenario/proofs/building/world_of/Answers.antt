use Rattle.std.proofs.Common.{◌∙◌, ap, map}
use Rattle.msg_scenario.proofs.building.world_of.Goals.{then-scenario, else-scenario}
use Rattle.msg_scenario.proofs.building.world_of.Goals as goal

pub returns-clause-meaning : goal.returns-clause-meaning
returns-clause-meaning c =
    let types = c.deref.ensures.value ∙ c.in_ok-limits.ensures.beside ∙ ap (map (λ named. named.1)) c.as_slice.ensures.items in
    let resources = c.deref-2.ensures.value ∙ c.in_ok-values.ensures.beside ∙ ap (map (λ named. named.1)) c.as_slice-2.ensures.items in
    let made = rw (types, resources) at c.in_ok-world.ensures.meaning in
    elim c.if-scenario.branch [
      | then-scenario w ↦ rw (w.world-is, w.if-scenario.true) (w.set_held.ensures.meaning _ made)
      | else-scenario w ↦ rw (w.world-is, w.if-scenario.false) made
    ]
