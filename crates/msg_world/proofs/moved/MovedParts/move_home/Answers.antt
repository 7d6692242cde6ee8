use Rattle.std.proofs.Common.{arith, ◌∙◌}
use Rattle.std.proofs.lemmas.Bool.Decides.{eqb_tells}
use Rattle.msg_world.proofs.moved.MovedParts.move_home.Goals as goal

pub loop-rest-preserved : goal.loop-rest-preserved
loop-rest-preserved g c =
    let i = c.loop-rest.invariant in
    let put = c.put_home.ensures in
    record {
      slots_len = put.slots_len ∙ i.slots_len;
      home_len = put.home_len ∙ i.home_len;
      others = λ k none. grind (arith, eqb_tells, none, c.without_bit-rest.ensures.bits k, put.left k, i.others k);
      free = λ k some. grind (arith, some, put.left k, put.joined k, i.free k);
      joined = λ k. grind (arith, put.left k, put.joined k, i.joined k);
    }
