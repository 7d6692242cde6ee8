use Rattle.std.proofs.Common.{arith, get_or-set_other, get_or-set_same}
use Rattle.std.proofs.lemmas.Bool.{cases_lt}
use Rattle.msg_world.proofs.Bits.{has_bit-above}
use Rattle.msg_order.specs.inner.SystemSet.{has}
use Rattle.msg_order.proofs.system_set.SystemSet.of_bits.Goals as goal

pub returns-clause-same : goal.returns-clause-same
unfolding has
returns-clause-same c k =
    let above = has_bit-above c.args.bits k c.ranges.bits.fits in
    grind (arith, cases_lt k 64, get_or-set_same, get_or-set_other, above, c.empty-set.ensures k)
