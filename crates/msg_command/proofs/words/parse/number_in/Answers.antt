use Rattle.std.proofs.Common.{arith}
use Rattle.msg_command.proofs.Numbers.{is_named, is_no_number}
use Rattle.msg_command.proofs.words.parse.number_in.Goals as goal

pub returns-in_default-clause-number : goal.returns-in_default-clause-number
returns-in_default-clause-number c = is_no_number c.args.text.now c.args.most (omega (arith, c.ranges.most.fits)) c.in_default.ensures.value.0

pub returns-then-number-most-clause-number : goal.returns-then-number-most-clause-number
returns-then-number-most-clause-number c =
    let parsed = c.in-Ok.ensures.value.0 in
    is_named c.args.text.now c.args.most c.in-Ok.number parsed.0.0 parsed.1 c.if-number-ge1.true c.if-number-most.true
