use Rattle.std.proofs.Common.{◌∙◌, arith, refl}
use Rattle.msg_world.specs.Prelude.{SameShape, WorldState, after_update}
use Rattle.msg_frames.proofs.SystemsStay.{joining_world}
use Rattle.msg_exec.proofs.{CoreRunsFrame.fixed_along, SystemAfterTurn.member_stays}
use Rattle.msg_exec.proofs.engine_core.open_frame.Goals as goal

pub join_next-requires : goal.join_next-requires
join_next-requires g c = record { stands = c.requires.stands }

pub post_all-requires-clause-whole : goal.post_all-requires-clause-whole
post_all-requires-clause-whole g c p has =
    let (s, (stands, is)) = c.requires.stands in
    let whole = (c.in_ok-join_next.ensures.begun s stands is).lender.whole in
    let shape = c.update_all.ensures.shape in
    shape.there p ∙ whole p (rw (shape.size.types, shape.size.resources) at has)

pub post_all-requires-clause-types : goal.post_all-requires-clause-types
post_all-requires-clause-types g c =
    rw (c.as_slice-posts.ensures.items, c.update_all.ensures.shape.size.types, c.in_ok-join_next.ensures.types)
    c.requires.posts

pub returns : goal.returns
returns g c = record {
  opened = λ s stands is.
      let has = c.in_ok-join_next.ensures.begun s stands is in
      let w : WorldState g.V.Value.values = after_update s.world in
      let now = c.update_all.ensures.meaning s.world (rw (joining_world s) at has.lender.world) in
      let updated = c.update_all.ensures.shape in
      let posted = c.in_ok-post_all.ensures.shape in
      let shape : SameShape c.join_next.new.core.lender.world _ = grind (arith, updated, posted) in
      record {
        lender = record {
          systems = has.lender.systems;
          accesses = has.lender.accesses;
          totals = has.lender.totals;
          members = λ i lt. member_stays g.S.SystemOf.meaning c.join_next.new.core.lender _ _ i _ refl refl refl shape
              (has.lender.members i lt);
          world = rw c.as_slice-posts.ensures.items at (c.in_ok-post_all.ensures.state w now);
          whole = λ p there. shape.there p
              ∙ has.lender.whole p (rw (shape.size.types, shape.size.resources) at there);
          types = shape.size.types ∙ has.lender.types;
          resources = shape.size.resources ∙ has.lender.resources;
        };
        fixed = fixed_along refl refl (grind arith) has.fixed;
        plan = has.plan;
        posts = rw c.as_slice-posts.ensures.items at (c.in_ok-post_all.ensures.replies w now);
      };
}
