use Rattle.std.proofs.Common.{arith, bit_and, get_or, refl, rules, sym, ℕ, ◌&&◌, ◌*◌, ◌+◌, ◌/◌, ◌<◌, ◌^◌}
use Rattle.std.proofs.lemmas.Nat.{and_le_l}
use Rattle.msg_world.specs.declared.limits.TheConstants.{MAX_SYSTEMS}
use Rattle.msg_world.proofs.Bits.{some_bit}
use Rattle.msg_order.specs.inner.SystemSet.{has, meets}
use Rattle.msg_order.proofs.SystemSets.{has_bit-apart, none_below, some_below, words-share}
use Rattle.msg_order.proofs.system_set.SystemSet.meets.Goals as goal

pub returns : goal.returns
unfolding has meets
returns c =
    sym (none_below (λ k. has c.args.self.now k && has c.args.other.now k) MAX_SYSTEMS (λ k h.
    grind (arith, has_bit-apart, c.loop-i.invariant (k / 64))))

pub returns-then-self-i-ne0 : goal.returns-then-self-i-ne0
unfolding has meets
returns-then-self-i-ne0 c =
    let xs = c.args.self.now.words in
    let ys = c.args.other.now.words in
    let i : ℕ = c.loop-i.i in
    let a : ℕ = get_or xs i 0 in
    let fits : a < 2 ^ 64 = search rules in
    let bit = some_bit (bit_and a (get_or ys i 0)) (omega (arith, and_le_l a (get_or ys i 0))) c.if-self-i-ne0.true in
    sym (some_below (λ k. has c.args.self.now k && has c.args.other.now k) MAX_SYSTEMS (64 * i + bit.0) (omega (arith, bit.1.0))
    (words-share xs ys i bit.0 (64 * i + bit.0) bit.1.0 refl bit.1.1))
