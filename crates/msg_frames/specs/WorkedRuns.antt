-- What two frames come to for one reader, worked out by hand.
use Rattle.std.specs.Prelude.{List, [], None, map, pos, ℕ, ℤ, ◌∷◌, ◌≡◌}
use Rattle.msg_world.specs.{Prelude.by, Prelude.i64_values, Prelude.new_world, declared.record.TheConstants.HOST}
use Rattle.msg_system.specs.{declared.condition.Condition.Condition, declared.condition.Probe.TheVariants.OnMessage, declared.op.Op.TheVariants.Read, declared.start.Start.Start, declared.start.Start.TheVariants.Current, declared.start.Start.TheVariants.Zero, Prelude.new_system}
use Rattle.msg_system.specs.declared.reply.Reply.TheVariants as reply
use Rattle.msg_frames.specs.{declared.log.Outcome.TheVariants.Ran, declared.log.Outcome.TheVariants.Skipped, declared.log.Turn.Turn}
use Rattle.msg_frames.specs.{FirstState.first_state, Frames.run}

-- the turns of two frames with these posts, of a system that reads the first of two types, starts
-- here, and stands beside these conditions and this join frame
abbrev pub turns_of_reader : Start → List (Condition ℤ) → ℕ → List (ℕ × ℤ) → List (ℕ × ℤ)
    → List (List (Turn ℤ))
turns_of_reader start conditions join first second =
    map (λ log. log.turns) (run (record { posts = first } ∷ record { posts = second } ∷ [])
    (first_state (new_system (record { ops = Read 0 None ∷ []; start = start }) 0 ∷ [])
    (record { conditions = conditions; join = join } ∷ []) [] 2 0
    (new_world i64_values (9 ∷ 9 ∷ []) []))).logs

-- a message of this type is unread
abbrev pub on_message : ℕ → Condition ℤ
on_message t = record { nots = 0; probe = OnMessage t }

-- what came of the turn of the only system
abbrev pub was_skipped : Turn ℤ
was_skipped = record { system = 0; outcome = Skipped }

abbrev pub did_read : ℕ → ℤ → Turn ℤ
did_read number value = record {
  system = 0;
  outcome = Ran (reply.Read (record {
    missed = 0;
    first = number;
    items = by HOST value ∷ [];
  }) ∷ []);
}

-- Each frame brings a message of one type, and the reader waits for both: it is skipped in both
-- frames, since it asks both conditions in each.
abbrev pub AsksBothEachTime : Type 0
AsksBothEachTime =
    turns_of_reader Zero (on_message 0 ∷ on_message 1 ∷ []) 1 ((0, pos 5) ∷ []) ((1, pos 6) ∷ [])
    ≡ (was_skipped ∷ []) ∷ (was_skipped ∷ []) ∷ []

-- The reader joins with the second frame and starts at the count: it gets what is posted in that.
abbrev pub JoinsBeforePosts : Type 0
JoinsBeforePosts = turns_of_reader Current [] 2 ((0, pos 5) ∷ []) ((0, pos 6) ∷ [])
    ≡ [] ∷ (did_read 1 (pos 6) ∷ []) ∷ []
