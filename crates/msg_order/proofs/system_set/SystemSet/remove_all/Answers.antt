use Rattle.std.proofs.Common.{arith, get_or, get_or-set_other, get_or-set_same, rules, ℕ, ◌%◌, ◌/◌, ◌<◌, ◌^◌}
use Rattle.std.proofs.lemmas.{Bool.cases_eq, Bool.cases_lt, List.get_or_past}
use Rattle.msg_world.proofs.Bits.{has_bit-clear, has_bit-zero}
use Rattle.msg_order.specs.{declared.system_set.TheConstants.WORDS, inner.SystemSet.has}
use Rattle.msg_order.proofs.system_set.SystemSet.remove_all.Goals as goal

pub loop-i-preserved : goal.loop-i-preserved
loop-i-preserved c =
    let i : ℕ = c.loop-i.i in
    let one : get_or c.loop-i.self.words i 0 < 2 ^ 64 = search rules in
    let other : get_or c.args.other.now.words i 0 < 2 ^ 64 = search rules in record {
      len = search rules;
      done = λ q k lt below.
          let clear = has_bit-clear (get_or c.loop-i.self.words i 0) (get_or c.args.other.now.words i 0) k one other in
          grind (arith, cases_eq q i, c.loop-i.invariant.done q k, c.loop-i.invariant.rest q, clear, get_or-set_same, get_or-set_other);
      rest = λ q le. grind (arith, c.loop-i.invariant.rest q, get_or-set_other);
    }

pub returns : goal.returns
unfolding has
returns c j =
    let w : ℕ = j / 64 in
    grind (arith, cases_lt w WORDS, c.loop-i.invariant.done w (j % 64), get_or_past, has_bit-zero)
