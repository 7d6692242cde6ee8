-- What the replies of a system tell of its readers: what each read and each clear went past. A
-- reader is a system and a type that it reads.
use Rattle.std.specs.Prelude.{Bool, List, None, Option, Some, [], false, flat_map, if◌then◌else◌, is_some, length, option_map, option_to_list, ℕ, ◌++◌, ◌+◌, ◌-◌, ◌==◌}
use Rattle.std.specs.List.{range_with_len, sum_by}
use Rattle.std.specs.Option.{option_map_or, option_or}
use Rattle.msg_buffer.specs.Prelude.{Stretch}
use Rattle.msg_world.specs.{Prelude.Values, Prelude.same_part, declared.part.Part.TheVariants.OfType, declared.record.Record.Record}
use Rattle.msg_system.specs.{Prelude.Step, Prelude.op_parts, Prelude.refused_by, Prelude.reply_took, declared.op.Op.Op, declared.reply.Reply.Reply, declared.reply.Reply.TheVariants.Cleared, declared.reply.Took.Took}
use Rattle.msg_frames.specs.declared.totals.Totals.{Totals}

-- What a reader went past by one op, and the messages that it was given; None if it cleared them.
pub record ReadEntry (V : Type 0) : Type 0 where
  pub stretch : Stretch
  pub given : Option (List (Record V))

module _ {V : Type 0} where
  -- the entry of an op that reads, by what it took
  abbrev pub entry_of_read : Took V → ReadEntry V
  entry_of_read took = record {
    stretch = record { missed = took.missed; first = took.first; number = length took.items };
    given = Some took.items;
  }

  -- the entry of a clear
  abbrev pub entry_of_clear : Reply V → Option (ReadEntry V)
  entry_of_clear (Cleared missed first n) =
      Some (record {
        stretch = record { missed = missed; first = first; number = n };
        given = None;
      })
  entry_of_clear _ = None

  -- the entry that a reply tells of; an op that only asks or writes goes past nothing
  abbrev pub entry_of : Reply V → Option (ReadEntry V)
  entry_of reply = option_or (option_map entry_of_read (reply_took reply)) (entry_of_clear reply)

  -- the op reads the type
  abbrev pub op_reads_type : ℕ → Op V → Bool
  op_reads_type t op = elim (op_parts op).read [ None ↦ false | Some p ↦ same_part p (OfType t) ]

  -- the entry of an op for a type
  abbrev pub entry_for : ℕ → Op V → Reply V → List (ReadEntry V)
  entry_for t op reply = if op_reads_type t op then option_to_list (entry_of reply) else []

module _ {V : Type 0} {values : Values V} where
  -- the entries for a type among these steps
  abbrev pub entries_at : ℕ → List (Step values) → List (ReadEntry V)
  entries_at t xs = flat_map (λ x. entry_for t x.op x.reply) xs

-- ---- numbers

module _ {V : Type 0} where
  -- the numbers that an entry goes past
  abbrev pub numbers_passed : ReadEntry V → List ℕ
  numbers_passed e = range_with_len e.stretch.first e.stretch.number

  -- those that it missed, which stand just before its first: from the place that it began at
  abbrev pub numbers_missed : ReadEntry V → List ℕ
  numbers_missed e = range_with_len (e.stretch.first - e.stretch.missed) e.stretch.missed

  -- the numbers that it accounts for
  abbrev pub entry_numbers : ReadEntry V → List ℕ
  entry_numbers e = numbers_missed e ++ numbers_passed e

  -- those that it gave, and those that it cleared
  abbrev pub numbers_given : ReadEntry V → List ℕ
  numbers_given e = if is_some e.given then numbers_passed e else []

  abbrev pub numbers_cleared : ReadEntry V → List ℕ
  numbers_cleared e = if is_some e.given then [] else numbers_passed e

-- ---- totals

-- the totals of a reader that hasn't joined
abbrev pub no_totals : Totals
no_totals = record { start = None; got = 0; missed = 0; cleared = 0; refused = 0 }

-- the totals of a reader that joins at this place
abbrev pub totals_from : ℕ → Totals
totals_from place =
    record { start = Some place; got = 0; missed = 0; cleared = 0; refused = 0 }

module _ {V : Type 0} where
  -- the totals with more entries
  abbrev pub with_entries : List (ReadEntry V) → Totals → Totals
  with_entries es x = record x {
    got = x.got + length (flat_map numbers_given es);
    missed = x.missed + length (flat_map numbers_missed es);
    cleared = x.cleared + length (flat_map numbers_cleared es);
  }

-- the totals with so many refused messages more
abbrev pub with_refused : ℕ → Totals → Totals
with_refused n x = record x { refused = x.refused + n }

module _ {V : Type 0} where
  -- how many messages of a type an op that was answered so didn't write
  abbrev pub refused_for : ℕ → Op V → Reply V → ℕ
  refused_for t op reply =
      option_map_or (λ r. if r.of_type == t then r.n else 0) (refused_by op reply) 0

module _ {V : Type 0} {values : Values V} where
  -- how many messages of a type these steps didn't write
  abbrev pub refused_at : ℕ → List (Step values) → ℕ
  refused_at t steps = sum_by (λ x. refused_for t x.op x.reply) steps

  -- the totals for a type with what these steps tell
  abbrev pub with_steps : ℕ → List (Step values) → Totals → Totals
  with_steps t steps x = with_refused (refused_at t steps) (with_entries (entries_at t steps) x)
