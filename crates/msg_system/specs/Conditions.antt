-- What a condition answers, and a job: all its conditions, and then its program or nothing.
use Rattle.std.specs.Prelude.{ℕ, zero, suc, Bool, true, not, ◌&&◌, nat_lt, List, [], ◌∷◌, length, map, Option, None, Some, if◌then◌else◌}
use Rattle.msg_buffer.specs.Prelude.{count, unread}
use Rattle.msg_world.specs.Prelude.{WorldState, Values}
use Rattle.msg_system.specs.{declared.condition.Condition.Condition, declared.condition.Probe.Probe, declared.reply.Reply.Reply, declared.start.Start.Start, Programs.Step}
use Rattle.msg_system.specs.declared.condition.Probe.TheVariants.{OnMessage, ResourceEquals}
use Rattle.msg_system.specs.Systems.{Meaning, after_turn, start_place, turn}

-- A condition with the place of its own cursor.
pub record Asked (V : Type 0) : Type 0 where
  pub condition : Condition V
  pub place : ℕ

module _ {V : Type 0} where
  -- a condition whose cursor was given nothing yet
  abbrev pub new_asked : Condition V → Asked V
  new_asked c = record { condition = c; place = 0 }

module _ {V : Type 0} {values : Values V} where
  -- whether something is unread from the place, or whether the resource has the value
  abbrev pub probe_answer : Probe V → ℕ → WorldState values → Bool
  probe_answer (OnMessage t) place s = nat_lt 0 (length (unread (s.histories t) place))
  probe_answer (ResourceEquals r v) place s = values.same (s.resources r) v

  -- the place afterwards: past all messages of the type; a probe of a resource keeps its place
  abbrev pub place_after : Probe V → ℕ → WorldState values → ℕ
  place_after (OnMessage t) place s = count (s.histories t)
  place_after (ResourceEquals r v) place s = place

-- an answer, inverted so many times
abbrev pub inverted : ℕ → Bool → Bool
inverted zero b = b
inverted (suc n) b = not (inverted n b)

module _ {V : Type 0} {values : Values V} where
  -- what a condition answers: what its probe answers, inverted as often as it has a `not`
  abbrev pub answer : Asked V → WorldState values → Bool
  answer a s = inverted a.condition.nots (probe_answer a.condition.probe a.place s)

  -- the condition after it was asked
  abbrev pub after_asking : WorldState values → Asked V → Asked V
  after_asking s a = record a { place = place_after a.condition.probe a.place s }

  -- all conditions hold
  abbrev pub all_hold : List (Asked V) → WorldState values → Bool
  all_hold [] s = true
  all_hold (a ∷ rest) s = answer a s && all_hold rest s

module _ {V : Type 0} where
  -- where the cursor of a probe starts
  abbrev pub probe_start : Probe V → Start → List ℕ → ℕ → ℕ
  probe_start (OnMessage t) start counts place = start_place start counts t
  probe_start (ResourceEquals r v) start counts place = place

  -- the condition with its cursor where it starts
  abbrev pub asked_started : Start → List ℕ → Asked V → Asked V
  asked_started start counts a =
      record a { place = probe_start a.condition.probe start counts a.place }

-- A job is a system and its conditions.
pub record Job (V : Type 0) : Type 0 where
  pub system : Meaning V
  pub conditions : List (Asked V)

module _ {V : Type 0} where
  -- the conditions of a job, without their places
  abbrev pub conditions_of : Job V → List (Condition V)
  conditions_of j = map (λ a. a.condition) j.conditions

-- What a job leaves, what its program answered (None if the job was skipped), and its steps.
pub record AfterJob {V : Type 0} (values : Values V) : Type 0 where
  pub job : Job V
  pub world : WorldState values
  pub replies : Option (List (Reply V))
  pub steps : List (Step values)

module _ {V : Type 0} {values : Values V} where
  -- Every condition is asked, whatever the others answer. The program runs if all hold.
  abbrev pub after_job : Job V → WorldState values → AfterJob values
  after_job j s =
      let asked : List (Asked V) = map (after_asking s) j.conditions in
      if all_hold j.conditions s then
      record {
        job = record { system = after_turn j.system s; conditions = asked };
        world = (turn j.system s).world;
        replies = Some (turn j.system s).replies;
        steps = (turn j.system s).steps;
      }
      else record {
        job = record { system = j.system; conditions = asked };
        world = s;
        replies = None;
        steps = [];
      }
