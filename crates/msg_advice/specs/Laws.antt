-- What holds of plans. Each law is the contract of a function in src/laws.rt.
use Rattle.std.specs.Prelude.{◌≡◌, ◌+◌, ◌<◌, ℕ, List, length, suc}
use Rattle.msg_world.specs.Prelude.{Values}
use Rattle.msg_order.specs.Prelude.{PlanView}
use Rattle.msg_frames.specs.Prelude.{IsArrangementOf, State, UsesParts, frame, run, turn_order_in}
use Rattle.msg_frames.specs.declared.arrangement.Arrangement.{Arrangement}
use Rattle.msg_frames.specs.declared.frame.Frame.{Frame}
use Rattle.msg_advice.specs.Order.{IsPlanFor, plan_in, turns_in}

-- After any frames from a state, the next one has its turns in the order that the plan of a frame
-- of its number tells.
abbrev pub FramesRunAsPlanned : {V : Type 0} → Values V → Type 0
FramesRunAsPlanned {V} values = (s : State values) (before : List (Frame V)) (f : Frame V)
    → turn_order_in (frame f (run before s).state).log
    ≡ turns_in (plan_in s (suc (s.frames + length before)))

-- What is planned of the arrangement of a state's systems is their plan.
abbrev pub ArrangementsTellPlans : {V : Type 0} → Values V → Type 0
ArrangementsTellPlans {V} values = (s : State values) (a : Arrangement) (k : ℕ) (plan : PlanView)
    → UsesParts s → IsArrangementOf s a → 0 < k → IsPlanFor a k plan → plan ≡ plan_in s k
