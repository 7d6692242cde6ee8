-- When what an engine works on stands for a state.
use Rattle.std.specs.Prelude.{◌≡◌, ℕ, suc, ◌-◌, ◌^◌, ◌≤◌, ◌<◌, min}
use Rattle.msg_order.specs.Prelude.{IsPlanOf, NameSystemsBelow}
use Rattle.msg_system.specs.Prelude.{Meaning}
use Rattle.msg_exec.specs.{declared.engine_core.Core.Core, Lender.AreJoins, Lender.LenderStands}
use Rattle.msg_frames.specs.{Prelude.IsSoundState, Prelude.State, Prelude.join_flags, declared.limits.TheConstants.LAST_JOIN}
use Rattle.msg_world.specs.{Prelude.Values, declared.limits.TheConstants.MAX_SYSTEMS}

module _ {V : Type 0} {values : Values V} where
  -- how many frames were run, as an engine counts them: it stays at the greatest number of its type
  abbrev pub frame_count : State values → ℕ
  frame_count s = min s.frames (2 ^ 32 - 1)

  -- A system joins with the next frame. With the first none does: those of join 1 joined as the
  -- engine was made.
  abbrev pub SomeJoin : State values → Type 0
  SomeJoin s = (0 < s.frames) × ((i : ℕ) × (i < s.systems) × ((s.members i).join ≡ suc s.frames))

module _ {S V : Type 0} {values : Values V} where
  -- The parts of a core that no frame changes are what the state says, and keep to the bounds of an
  -- engine.
  pub record FixedParts (c : Core S V) (s : State values) : Type 0 where
    pub joins : AreJoins c.joins.items s
    pub rules : c.rules.items ≡ s.rules
    pub few : s.systems ≤ MAX_SYSTEMS
    pub early : (i : ℕ) → i < s.systems → (s.members i).join ≤ LAST_JOIN
    pub named : NameSystemsBelow s.systems s.rules

module _ {S V : Type 0} {values : Values V} (meaning : S → Meaning V) where
  -- Part by part, the core is what the state says, and the state is sound.
  pub record CoreStands (c : Core S V) (s : State values) : Type 0 where
    pub lender : LenderStands meaning c.lender s
    pub fixed : FixedParts c s
    pub plan : IsPlanOf c.lender.accesses.items s.rules (join_flags s) c.plan
    pub sound : IsSoundState s
