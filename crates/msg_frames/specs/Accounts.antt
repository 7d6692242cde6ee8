-- What callers see of what each reader was given, and of what each writer was refused.
use Rattle.std.specs.Prelude.{Bool, List, flat_map, length, map, min, unwrap_or, ℕ, ◌+◌, ◌-◌, ◌^◌, ◌≡◌}
use Rattle.std.specs.List.{filter, range_with_len}
use Rattle.msg_buffer.specs.Prelude.{History, missed, unread}
use Rattle.msg_world.specs.{Prelude.Values, declared.part.Part.TheVariants.OfType, declared.record.Record.Record}
use Rattle.msg_frames.specs.{Frames.State, Moments.reader_place, declared.account.Account.Account, declared.backlog.Backlog.Backlog, declared.totals.Totals.Totals, declared.writer_account.WriterAccount.WriterAccount}

module _ {V : Type 0} {values : Values V} where
  -- system i reads type t
  abbrev pub is_reader : State values → ℕ → ℕ → Bool
  is_reader s i t = (s.members i).job.system.needs.reads (OfType t)

  -- the account of system i for type t
  abbrev pub account_of : State values → ℕ → ℕ → Account
  account_of s i t =
      let x : Totals = (s.members i).totals t in
      record {
        system = i;
        of_type = t;
        start = x.start;
        got = x.got;
        missed = x.missed;
        cleared = x.cleared;
        place = reader_place s i t;
      }

  -- those of system i: one for each type that it reads, by the type's number
  abbrev pub accounts_of_system : State values → ℕ → List Account
  accounts_of_system s i = map (account_of s i) (filter (is_reader s i) (range_with_len 0 s.types))

  -- all of them, by system and then by type
  abbrev pub accounts_of : State values → List Account
  accounts_of s = flat_map (accounts_of_system s) (range_with_len 0 s.systems)

module _ {V : Type 0} {values : Values V} where
  -- system i writes type t
  abbrev pub is_writer : State values → ℕ → ℕ → Bool
  is_writer s i t = (s.members i).job.system.needs.writes (OfType t)

  -- the account of system i for type t that it writes
  abbrev pub writer_account_of : State values → ℕ → ℕ → WriterAccount
  writer_account_of s i t = record {
    system = i;
    of_type = t;
    refused = min ((s.members i).totals t).refused (2 ^ 64 - 1);
  }

  -- those of system i: one for each type that it writes, by the type's number
  abbrev pub writer_accounts_of_system : State values → ℕ → List WriterAccount
  writer_accounts_of_system s i =
      map (writer_account_of s i) (filter (is_writer s i) (range_with_len 0 s.types))

  -- all of them, by system and then by type
  abbrev pub writer_accounts_of : State values → List WriterAccount
  writer_accounts_of s = flat_map (writer_accounts_of_system s) (range_with_len 0 s.systems)

module _ {V : Type 0} {values : Values V} where
  -- what became of the messages past the place of an account
  abbrev pub backlog_of : State values → Account → Backlog
  backlog_of s a =
      let h : History (Record V) = s.world.histories a.of_type in
      record { lost = missed h a.place; unread = length (unread h a.place) }

-- The start and all that the reader got, missed and cleared since add up to its place.
abbrev pub AddsUp : Account → Type 0
AddsUp a = unwrap_or a.start 0 + a.got + a.missed + a.cleared ≡ a.place
