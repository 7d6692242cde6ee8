use Rattle.std.proofs.Common.{arith, ◌∙◌}
use Rattle.std.proofs.lemmas.Bool.Decides.{eqb_tells}
use Rattle.msg_world.proofs.moved.MovedParts.move_out.Goals as goal

pub loop-rest-preserved : goal.loop-rest-preserved
loop-rest-preserved g c =
    let i = c.loop-rest.invariant in
    let set = c.lowest-k.ensures.is_set in
    let without = c.without_bit-rest.ensures.bits in
    let one = c.move_slot.ensures in
    record {
      mask = i.mask;
      of_mask = λ k bit. grind (arith, without k, bit, i.of_mask k);
      moved_len = one.moved_len ∙ i.moved_len;
      left_len = one.left_len ∙ i.left_len;
      to_do = λ k bit. grind (arith, eqb_tells, bit, without k, one.moved k, one.left k, i.to_do k);
      moved = λ k gone. grind (arith, eqb_tells, gone, set, without k, one.moved k, i.of_mask k, i.to_do k, i.moved k);
      left = λ k gone. grind (arith, eqb_tells, gone, set, without k, one.left k, i.of_mask k, i.to_do k, i.left k);
    }
