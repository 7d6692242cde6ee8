-- Reads that took the same.
use Rattle.std.proofs.Common.{◌≡◌, ℤ, arith}
use Rattle.msg_world.specs.declared.record.Record.{Record}

-- messages with one writer and one value are equal
pub same_record : (a b : Record ℤ) → a.writer ≡ b.writer → a.value ≡ b.value → a ≡ b
same_record a b writer value = grind arith
