-- The steps of a run: each op and each post as it was done, and what they wrote.
use Rattle.std.specs.List.{enumerate_from}
use Rattle.std.specs.Prelude.{List, [], flat_map, if◌then◌else◌, map, ℕ, ◌++◌, ◌==◌, ◌∷◌, ◌≡◌}
use Rattle.msg_buffer.specs.Prelude.{History}
use Rattle.msg_world.specs.{Prelude.Values, Prelude.WorldState, declared.record.Record.Record}
use Rattle.msg_system.specs.{Prelude.Step, Prelude.wrote, declared.reply.Reply.Reply}
use Rattle.msg_frames.specs.{declared.log.Log.Log, declared.log.Outcome.Outcome, declared.log.Outcome.TheVariants.Ran, declared.log.Outcome.TheVariants.Skipped}

-- ---- what was written

module _ {V : Type 0} {values : Values V} where
  -- the messages that steps tell were written to type t
  abbrev pub written_in : ℕ → List (ℕ × Step values) → List (ℕ × Record V)
  written_in t steps = flat_map (λ x. wrote t x.0 x.1.op x.1.reply) steps

module _ {V : Type 0} where
  -- all messages ever written, each with its number
  abbrev pub all_written : History (Record V) → List (ℕ × Record V)
  all_written h = enumerate_from 0 (map (λ e. e.message) h.entries)

-- Type t's list grew by exactly what the steps tell: each message once, under the number told.
pub record IsWrittenOnce {V : Type 0} {values : Values V} (t : ℕ) (w : WorldState values)
    (steps : List (ℕ × Step values))
    (v : WorldState values) : Type 0 where
  pub grew : all_written (v.histories t) ≡ all_written (w.histories t) ++ written_in t steps

-- ---- what was answered

module _ {V : Type 0} where
  -- what a system was told by a turn: its replies, or nothing if it was skipped
  abbrev pub replies_of : Outcome V → List (List (Reply V))
  replies_of Skipped = []
  replies_of (Ran replies) = replies ∷ []

  -- what system i was told: the replies of each turn that it took
  abbrev pub answers_in : ℕ → List (Log V) → List (List (Reply V))
  answers_in i logs =
      flat_map (λ log. flat_map (λ turn. if turn.system == i then replies_of turn.outcome
      else []) log.turns) logs
