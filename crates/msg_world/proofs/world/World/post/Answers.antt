use Rattle.std.proofs.Common.{None, Some, ap, refl, slice_set, ◌∙◌, ◌≡◌}
use Rattle.std.proofs.lemmas.{Result.IfErr-weaker, Result.IfOk-weaker, Result.on_err_weaker, Result.on_ok_weaker, List.set-get_or}
use Rattle.msg_buffer.specs.Prelude.{Kept, StandsFor}
use Rattle.msg_world.specs.Prelude.{OfType, PartsStand, Record, WorldState}
use Rattle.msg_world.proofs.Worlds.{item_at, there_below, type_shape, type_stands}
use Rattle.msg_world.proofs.world.World.post.Goals as goal

pub returns : goal.returns
returns g c =
    let t = c.args.t in let number = c.number.ensures.number in let kept = c.deref_mut.result.now in
    let held : c.in-Some.messages ≡ kept = rw (c.deref_mut.ensures.value, ← c.messages.view_is) refl in
    let home = rw (← c.self.view_is) at c.requires.home in
    let within = there_below c.self.inside.types.items t home in
    let found = item_at c.self.inside.types.items t (Some kept) within
    (rw (number, c.in-Some.is, held) at c.index_mut-slot.ensures.value) in
    let all = λ (s : WorldState g.V.Value.values) (stand : PartsStand c.args.self.now s). rw (← c.self.view_is) at stand in
    let here : (s : WorldState g.V.Value.values) → PartsStand c.args.self.now s
    → StandsFor kept (s.histories t) = λ s stand. rw found at (all s stand (OfType t)) in
    let types = c.self.inside.types.items in
    let slots = λ (k : Kept (Record g.row.V.Denot)). slice_set types t (Some k) in
    let again : slots kept ≡ types = rw found at (set-get_or types t None) in
    rw number (record {
      meaning = on_ok_weaker c.write.result (λ meaning s stand.
          type_stands _ s t c.write.new.self _ within
          (meaning (s.histories t) (here s stand)) (all s stand))
          c.write.ensures.meaning;
      number = IfOk-weaker c.write.result _ _ (λ id is s stand. is (s.histories t) (here s stand))
          c.write.ensures.number;
      room = on_ok_weaker c.write.result (λ room s stand. room (s.histories t) (here s stand)) c.write.ensures.room;
      spent = IfErr-weaker c.write.result _ _ (λ e spent s stand. spent (s.histories t) (here s stand))
          c.write.ensures.spent;
      shape = rw (← c.self.view_is) (type_shape _ t c.write.new.self within home);
      err = on_err_weaker c.write.result (λ (same : c.write.new.self ≡ kept). rw (ap slots same ∙ again) c.self.view_is) c.write.ensures.err;
      handed_back = c.write.ensures.handed_back;
    })
