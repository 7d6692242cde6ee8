-- How the references that a loan gives out write back to it.
use Rattle.std.specs.{Borrow.RattleType, Prelude.ℕ, Prelude.Some, Prelude.slice_set, contracts.alloc.Global.the_row as global_row, contracts.impls.GlobalAllocator.TheImpl.ghosts}
use Rattle.msg_buffer.specs.{Prelude.Kept, contracts.messages.Messages.the_row as messages_of}
use Rattle.msg_world.specs.{declared.record.Record.Record, contracts.record.Record.the_row as record_row, Parts.Parts}

-- a buffer of records, as the logic names that type
abbrev pub messages_row : RattleType → RattleType
messages_row V = messages_of (record_row V) global_row ghosts

module _ {V : Type 0} where
  -- parts of which a type's messages were changed
  abbrev pub with_type : Parts V → ℕ → Kept (Record V) → Parts V
  with_type w t k = record w { types = slice_set w.types t (Some k) }

  -- parts of which a resource was changed
  abbrev pub with_value : Parts V → ℕ → V → Parts V
  with_value w r z = record w { resources = slice_set w.resources r (Some z) }
