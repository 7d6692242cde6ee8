-- What callers see of a log.
use Rattle.std.specs.Prelude.{List, None, Option, Some, length, option_and_then, slice_get, if◌then◌else◌, ℕ, ◌-◌, ◌==◌}
use Rattle.std.specs.List.{find}
use Rattle.msg_world.specs.declared.record.Record.{Record}
use Rattle.msg_system.specs.{Prelude.brought, Prelude.is_cut, declared.reply.Reply.Reply}
use Rattle.msg_frames.specs.{declared.log.Log.Log, declared.log.Outcome.TheVariants.Ran, declared.log.Outcome.TheVariants.Skipped, declared.log.Turn.Turn}

module _ {V : Type 0} where
  -- the turn of system i in a frame
  abbrev pub turn_in : ℕ → Log V → Option (Turn V)
  turn_in i log = find (λ turn. turn.system == i) log.turns

  -- the replies of a turn that wasn't skipped
  abbrev pub turn_replies : Turn V → Option (List (Reply V))
  turn_replies turn = elim turn.outcome [ Skipped ↦ None | Ran replies ↦ Some replies ]

  -- the messages that op k of system i read in a frame
  abbrev pub read_in : ℕ → ℕ → Log V → List (Record V)
  read_in i k log =
      brought (option_and_then (λ replies. slice_get replies k)
      (option_and_then turn_replies (turn_in i log)))

  -- the last reply of a turn, if it tells that the turn was cut
  abbrev pub cut_of : Turn V → Option (Reply V)
  cut_of turn = option_and_then (λ replies.
      option_and_then (λ reply. if is_cut reply then Some reply else None)
      (slice_get replies (length replies - 1))) (turn_replies turn)
