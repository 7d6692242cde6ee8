-- What a refused write says.
use Rattle.std.specs.declared.vec.Vec.{Vec}
use Rattle.msg_buffer.specs.{declared.refusals.WriteRefusal.WriteRefusal, declared.refusals.WriteRefusal.TheVariants.NumbersSpent, declared.refusals.WriteRefusal.TheVariants.NoMemory, declared.refusals.BatchRefusal.BatchRefusal}
use Rattle.msg_buffer.specs.declared.refusals.BatchRefusal.TheVariants as batch

module _ {M : Type 0} where
  -- the message that was passed
  abbrev pub message_refused : WriteRefusal M → M
  message_refused (NumbersSpent m) = m
  message_refused (NoMemory m) = m

  -- the write was refused because too few numbers are left
  abbrev pub IsSpent : WriteRefusal M → Type 0
  IsSpent (NumbersSpent m) = Unit {0}
  IsSpent (NoMemory m) = ⊥

module _ {M A : Type 0} where
  -- the batch that was passed
  abbrev pub batch_refused : BatchRefusal M A → Vec M A
  batch_refused (batch.NumbersSpent ms) = ms
  batch_refused (batch.NoMemory ms) = ms

  -- the batch was refused because too few numbers are left
  abbrev pub IsBatchSpent : BatchRefusal M A → Type 0
  IsBatchSpent (batch.NumbersSpent ms) = Unit {0}
  IsBatchSpent (batch.NoMemory ms) = ⊥
