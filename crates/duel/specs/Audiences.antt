-- When an audience has seen enough.
use Rattle.std.specs.Prelude.{ℤ, pos, [], Bool, false, Option, Some, None, if◌then◌else◌, int_lt, not, option_map, slice_get}
use Rattle.msg_system.specs.{declared.reply.Reply.Reply, declared.reply.Reply.TheVariants.Summed}
use Rattle.msg_frames.specs.{declared.frame.Frame.Frame, declared.log.Log.Log, declared.log.Outcome.Outcome, declared.log.Outcome.TheVariants.Ran}
use Rattle.duel.specs.declared.audience.Audience.{Audience}

-- what a sum came to; else 0
abbrev pub sum_of : Option (Reply ℤ) → ℤ
sum_of (Some (Summed took value)) = value
sum_of _ = pos 0

-- what the first op of this outcome summed
abbrev pub first_sum : Option (Outcome ℤ) → ℤ
first_sum (Some (Ran replies)) = sum_of (slice_get replies 0)
first_sum _ = pos 0

-- how many falls the referee has counted, whose turn is a frame's first
abbrev pub falls_counted : Log ℤ → ℤ
falls_counted log = first_sum (option_map (λ turn. turn.outcome) (slice_get log.turns 0))

-- the audience has seen enough, if the last frame had this log
abbrev pub is_over : Audience → Option (Log ℤ) → Bool
is_over a None = false
is_over a (Some log) = not (int_lt (falls_counted log) a.falls)

-- what it asks for: nothing more, or one frame more, in which the host posts nothing
abbrev pub asked_for : Audience → Option (Log ℤ) → Option (Frame ℤ)
asked_for a last = if is_over a last then None else Some (record { posts = [] })
