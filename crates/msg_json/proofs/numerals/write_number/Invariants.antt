use Rattle.std.proofs.Common.{◌≡◌, ◌+◌, ◌≤◌, ◌++◌, length, drop}
use Rattle.std.specs.Fmt.{decimal}
use Rattle.msg_json.specs.declared.numerals.TheConstants.{LONGEST}
use Rattle.msg_json.proofs.numerals.write_number.Given as goal

abbrev pub invariant-loop-left : goal.invariant-loop-left
invariant-loop-left l =
    (l.at ≤ l.end) × (length l.pair ≡ LONGEST) × (l.at + length (decimal l.number) ≡ l.end + length (decimal l.left))
    × (decimal l.left ++ drop l.at l.pair ≡ decimal l.number ++ drop l.end l.initial.pair)

abbrev pub decreases-loop-left : goal.decreases-loop-left
decreases-loop-left l = l.left
