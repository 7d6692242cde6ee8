-- What each step of a frame leaves of what an engine works on.
use Rattle.std.specs.Prelude.{◌≡◌, ◌≢◌, ◌⊎◌, ℕ, suc, ◌<◌, List, Option, Some, None}
use Rattle.msg_order.specs.Prelude.{IsPlanOf, PlanView}
use Rattle.msg_system.specs.declared.reply.Reply.{Reply}
use Rattle.msg_system.specs.Prelude.{Meaning}
use Rattle.msg_world.specs.Prelude.{after_update, Values}
use Rattle.msg_exec.specs.{declared.engine_core.Core.Core, Lender.LenderStands, Cores.CoreStands, Cores.FixedParts}
use Rattle.msg_frames.specs.{declared.frame.Frame.Frame, declared.log.Log.Log}
use Rattle.msg_frames.specs.Prelude.{IsLawfulFor, TellsTheSame, before_turns, after_joining, post_replies, State, frame, join_flags, turn_order_in}

module _ {V : Type 0} {values : Values V} where
  -- the state as its next frame begins: those that join have joined, and the frame is counted
  abbrev pub begun : State values → State values
  begun s = record (after_joining s) { frames = suc s.frames }

-- A frame on the state s was replayed in this order, which is lawful: the log tells the same as the
-- frame's, with the turns in this order.
pub record IsReplay {V : Type 0} {values : Values V} (f : Frame V) (order : List ℕ)
    (s : State values) (log : Log V) : Type 0 where
  pub lawful : IsLawfulFor f s order
  pub tells : TellsTheSame log (frame f s).log
  pub in_order : turn_order_in log ≡ order

module _ {V : Type 0} {values : Values V} where
  -- Nobody joins with the next frame. With the first nobody does: those of join 1 joined as the
  -- engine was made.
  abbrev pub NobodyJoins : State values → Type 0
  NobodyJoins s = (i : ℕ) → i < s.systems → ((s.members i).join ≢ suc s.frames) ⊎ (s.frames ≡ 0)

module _ {S V : Type 0} {values : Values V} where
  -- the plan is that of those that will have joined by the next frame
  abbrev pub PlansNext : Core S V → State values → PlanView → Type 0
  PlansNext c s plan = IsPlanOf c.lender.accesses.items s.rules
      (join_flags (begun s)) plan

  -- the number of the next frame and its plan, if some join with it; none if nobody does
  abbrev pub IsNextPlan : Core S V → State values → Option (ℕ × PlanView) → Type 0
  IsNextPlan c s None = NobodyJoins s
  IsNextPlan c s (Some next) = (0 < s.frames) × (next.0 ≡ suc s.frames) × PlansNext c s next.1

module _ {S V : Type 0} {values : Values V} (meaning : S → Meaning V) where
  -- those that join with the next frame have joined, and the plan is that of the next frame
  pub record HasBegunFrame (c : Core S V) (s : State values) : Type 0 where
    pub lender : LenderStands meaning c.lender (after_joining s)
    pub fixed : FixedParts c (after_joining s)
    pub plan : IsPlanOf c.lender.accesses.items (after_joining s).rules
        (join_flags (begun s)) c.plan

  -- All is done that a frame on the state s does before its turns, and the posts were answered so.
  pub record HasOpened (frame : Frame V) (s : State values) (c : Core S V)
      (replies : List (Reply V)) : Type 0 where
    pub lender : LenderStands meaning c.lender (before_turns frame.posts s)
    pub fixed : FixedParts c (before_turns frame.posts s)
    pub plan : IsPlanOf c.lender.accesses.items (before_turns frame.posts s).rules
        (join_flags (before_turns frame.posts s)) c.plan
    pub posts : replies ≡ post_replies frame.posts (after_update s.world)

  -- A frame on the state s was run or replayed, and this holds of what came of it: the core stands
  -- for the state that the frame leaves.
  pub record HasLeft (Holds : Type 0) (f : Frame V) (s : State values) (c : Core S V) : Type 0 where
    pub holds : Holds
    pub stands : CoreStands meaning c (frame f s).state
    pub frames : (frame f s).state.frames ≡ suc s.frames
