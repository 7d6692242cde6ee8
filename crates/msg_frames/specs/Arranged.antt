-- What the order of turns comes of.
use Rattle.std.specs.Prelude.{Bool, List, length, map, ◌≡◌, ◌≤◌}
use Rattle.std.specs.List.{range_with_len}
use Rattle.msg_world.specs.{Prelude.Values, declared.limits.TheConstants.MAX_SYSTEMS}
use Rattle.msg_order.specs.Prelude.{IsAcyclic, NameSystemsBelow, rules_among}
use Rattle.msg_frames.specs.{Frames.AreAccessesOf, Frames.State, declared.arrangement.Arrangement.Arrangement}

-- There is a plan of it: each system has an access and a join frame, and its rules are among its
-- systems and make no cycle.
pub record IsOrderly (a : Arrangement) : Type 0 where
  pub few : length a.accesses.now ≤ MAX_SYSTEMS
  pub one_each : length a.joins.now ≡ length a.accesses.now
  pub in_range : NameSystemsBelow (length a.accesses.now) a.rules.now
  pub no_cycle : (joined : List Bool) → length joined ≡ length a.accesses.now
      → IsAcyclic (rules_among joined a.rules.now)

-- It is that of the systems of this state.
pub record IsArrangementOf {V : Type 0} {values : Values V} (s : State values)
    (a : Arrangement) : Type 0 where
  pub accesses : AreAccessesOf s a.accesses.now
  pub joins : a.joins.now ≡ map (λ i. (s.members i).join) (range_with_len 0 s.systems)
  pub rules : a.rules.now ≡ s.rules
  pub types : a.types ≡ s.types
  pub resources : a.resources ≡ s.resources
