-- What is added to totals, and where they begin.
use Rattle.std.specs.Prelude.{ℕ, suc, ◌≤◌, ◌==◌, List, [], length, None, Some, option_to_list, slice_get, ⊤, if◌then◌else◌}
use Rattle.std.specs.Option.{option_map_or}
use Rattle.msg_system.specs.{declared.limits.TheConstants.MAX_OPS, declared.op.Op.Op, declared.reply.Reply.Reply}
use Rattle.msg_world.specs.{declared.part.Part.TheVariants.OfType}
use Rattle.msg_system.specs.Prelude.{Meaning, refused_in, start_place, type_read_by}
use Rattle.msg_frames.specs.{declared.log.Outcome.Outcome, declared.log.Outcome.TheVariants.Skipped, declared.log.Outcome.TheVariants.Ran, declared.totals.Totals.Totals}
use Rattle.msg_frames.specs.Prelude.{ReadEntry, entry_of, with_answer, with_answers}

module _ {V : Type 0} where
  -- where a system that was given nothing starts in a type
  abbrev pub first_place : Meaning V → List ℕ → ℕ → ℕ
  first_place m counts t = if m.needs.reads (OfType t) then start_place m.start counts t else 0

  -- the totals for type t after a turn that was of these ops
  abbrev pub totals_by : ℕ → List (Op V) → Outcome V → Totals → Totals
  totals_by t ops Skipped x = x
  totals_by t ops (Ran replies) x = with_answers t ops replies x

  -- the totals for type t with what the reply to op k tells
  abbrev pub totals_with : ℕ → List (Op V) → ℕ → Reply V → Totals → Totals
  totals_with t ops k reply x = option_map_or (λ op. with_answer t op reply x) (slice_get ops k) x

  -- the entry for type t that the reply to op k tells of
  abbrev pub entry_at : ℕ → List (Op V) → ℕ → Reply V → List (ReadEntry V)
  entry_at t ops k reply =
      elim (type_read_by ops k) [
        | None ↦ []
        | Some u ↦ if u == t
            then option_to_list (entry_of reply) else []
      ]

  -- how many messages of type t op k didn't write
  abbrev pub refused_there : ℕ → List (Op V) → ℕ → Reply V → ℕ
  refused_there t ops k reply =
      option_map_or (λ r. if r.of_type == t then r.n else 0) (refused_in ops k reply) 0

  -- no more replies than a turn has at most: one for each op, and one if it is cut
  abbrev pub HasFewReplies : Outcome V → Type 0
  HasFewReplies Skipped = ⊤
  HasFewReplies (Ran replies) = length replies ≤ suc MAX_OPS
