use Rattle.std.proofs.Common.{◌≡◌, ◌+◌, ◌-◌, arith, append-nil, to_z-of_z}
use Rattle.std.proofs.lemmas.List.{drop-set, drop_all}
use Rattle.itoa.proofs.Decimal.{minus_first}
use Rattle.msg_json.specs.declared.numerals.TheConstants.{LONGEST}
use Rattle.msg_json.proofs.Digits.{digits, no_minus}
use Rattle.msg_json.proofs.numerals.write_value.Goals as goal

pub returns-then-value-ge0-clause-written : goal.returns-then-value-ge0-clause-written
returns-then-value-ge0-clause-written c =
    let back = to_z-of_z c.ranges.value in
    let none = drop_all LONGEST c.args.pair.now (omega arith) in
    rw (c.write_digits-start.ensures.written, none, append-nil, c.unsigned_abs.ensures.value, back)
    (no_minus c.args.value (rw back at c.if-value-ge0.true))

pub returns-clause-written : goal.returns-clause-written
returns-clause-written c =
    let w = c.write_digits-start in
    let back = to_z-of_z c.ranges.value in
    let e : w.result - 1 + 1 ≡ w.result = omega (arith, digits) in
    let set = drop-set w.new.buf (w.result - 1) 45 (omega (arith, digits)) in
    let none = drop_all LONGEST c.args.pair.now (omega arith) in
    rw (set, e, w.ensures.written, none, append-nil, c.unsigned_abs.ensures.value, back)
    (minus_first c.args.value (rw back at c.if-value-ge0.false))
