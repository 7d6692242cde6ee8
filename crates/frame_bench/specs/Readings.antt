-- What a reading does next.
use Rattle.std.specs.Prelude.{◌==◌, ℕ, List, length, nat_lt, Option, Some, None, if◌then◌else◌, ℤ, pos}
use Rattle.msg_system.specs.{declared.op.Op.Op, declared.op.Op.TheVariants.Read, declared.reply.Reply.Reply}
use Rattle.frame_bench.specs.{declared.hearing.Hearing.Hearing, declared.hearing.TheConstants.HEARD, declared.hearing.TheConstants.TOLD, declared.reader.Reading.Reading}
use Rattle.msg_function.specs.Prelude.{Answer, Given, nothing, put}

-- it reads once in a turn
abbrev pub one_read : Reading → List (Reply ℤ) → Option (Op ℤ)
one_read x replies = if length replies == 0 then Some (Read x.from None) else None

-- it remembers how many messages it was given, and writes one if some came
abbrev pub hears : Hearing → Given ℤ → Hearing × Answer ℤ
hears x given =
    let heard : ℕ = length (given.messages HEARD) in
    (record { heard = heard }, if nat_lt 0 heard then put TOLD (pos 1) nothing else nothing)
