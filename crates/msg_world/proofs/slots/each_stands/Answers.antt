use Rattle.std.proofs.{Common.inl, Common.inr, Common.arith, lemmas.Bool.cases_eq}
use Rattle.msg_buffer.specs.Prelude.{empty}
use Rattle.msg_world.specs.Prelude.{by}
use Rattle.msg_world.proofs.Worlds.{item_at}
use Rattle.msg_world.proofs.slots.each_stands.Goals as goal
use Rattle.msg_world.proofs.slots.each_stands.Goals.{in-Some, in_default}

pub loop-slot-preserved : goal.loop-slot-preserved
loop-slot-preserved g c t lt =
    let i = c.loop-slot.slot-index in
    elim (cases_eq t i) [
      | inl e ↦ rw (e, item_at c.args.types.now i c.slot-item.result c.loop-slot-test.true c.slot-item.is)
          (elim c.match-slot.branch [
            | in-Some w ↦ rw (w.in-Some.is, ← w.messages.view_is)
                (rw w.deref.ensures at (w.stands_for_some.ensures.history (by 0 g.V.Value.values.some)))
            | in_default w ↦ rw w.in_default.is (empty 0, tt)
          ])
      | inr ne ↦ c.loop-slot.invariant t (omega arith)
    ]
