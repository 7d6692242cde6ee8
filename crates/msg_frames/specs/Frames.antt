-- A frame, and frames one after the other.
use Rattle.std.specs.Prelude.{Bool, List, None, Option, Some, [], if◌then◌else◌, length, map, max, nat_le, nat_lt, suc, ℕ, ◌&&◌, ◌++◌, ◌<◌, ◌==◌, ◌||◌, ◌∷◌, ◌≡◌}
use Rattle.std.specs.List.{list_any, range_with_len}
use Rattle.msg_buffer.specs.Prelude.{count, write}
use Rattle.msg_world.specs.{declared.access.Access.Access, declared.part.Part.Part, declared.record.TheConstants.HOST}
use Rattle.msg_world.specs.Prelude.{Values, WorldState, after_update, by, with_history}
use Rattle.msg_world.specs.declared.limits.TheConstants.{MAX_RESOURCES, MAX_TYPES}
use Rattle.msg_world.specs.declared.part.Part.TheVariants.{OfResource, OfType, Registry}
use Rattle.msg_order.specs.{Prelude.Graph, Prelude.access_of, Prelude.settled, Prelude.turns, declared.rule.Rule.Rule}
use Rattle.msg_system.specs.{declared.op.Op.TheVariants.Write, declared.reply.Reply.Reply}
use Rattle.msg_system.specs.Prelude.{AfterJob, FitsWorld, IsAccessOf, Job, Needs, Step, after_job, after_start, asked_started, needs_any, numbers_for, with_conditions, write_reply}
use Rattle.msg_frames.specs.{declared.frame.Frame.Frame, declared.log.Log.Log, declared.log.Outcome.Outcome, declared.log.Turn.Turn, declared.totals.Totals.Totals}
use Rattle.msg_frames.specs.Entries.{totals_from, with_steps}
use Rattle.msg_frames.specs.declared.log.Outcome.TheVariants.{Ran, Skipped}

-- One system of a state: its job with all cursors, the frame that it joins with (with 1 it joins
-- before any), and of each type what it got, missed and cleared, and what it was refused.
pub record Member (V : Type 0) : Type 0 where
  pub job : Job V
  pub join : ℕ
  pub totals : ℕ → Totals

-- What a frame starts from and leaves: how many systems there are, and each by its number, in order
-- of addition; the rules; how many types and resources there are, and the world; and how many
-- frames were run.
pub record State {V : Type 0} (values : Values V) : Type 0 where
  pub systems : ℕ
  pub members : ℕ → Member V
  pub rules : List Rule
  pub types : ℕ
  pub resources : ℕ
  pub world : WorldState values
  pub frames : ℕ

module _ {V : Type 0} {values : Values V} where
  -- The last frame whose systems have joined: the last one that was run, or frame 1, whose systems
  -- join before any is run.
  abbrev pub last_joined : State values → ℕ
  last_joined s = max 1 s.frames

  -- of each system, whether it has joined
  abbrev pub join_flags : State values → List Bool
  join_flags s = map (λ i. nat_le (s.members i).join (last_joined s)) (range_with_len 0 s.systems)

-- ---- joining

module _ {V : Type 0} {values : Values V} where
  -- how many messages of each type were ever written
  abbrev pub counts : State values → List ℕ
  counts s = map (λ t. count (s.world.histories t)) (range_with_len 0 s.types)

module _ {V : Type 0} where
  -- a job whose cursors stand where they start
  abbrev pub job_begun : List ℕ → Job V → Job V
  job_begun counts j = record {
    system = after_start counts j.system;
    conditions = map (asked_started j.system.start counts) j.conditions;
  }

  -- a system that joins: its cursors stand where they start, and its accounts begin there
  abbrev pub joined_member : List ℕ → Member V → Member V
  joined_member counts m = record m {
    job = job_begun counts m.job;
    totals = λ t. totals_from ((job_begun counts m.job).system.places t);
  }

module _ {V : Type 0} {values : Values V} where
  -- those that join with frame k have joined
  abbrev pub with_joining : ℕ → State values → State values
  with_joining k s = record s {
    members = λ i. if nat_lt i s.systems && ((s.members i).join == k)
        then joined_member (counts s) (s.members i) else s.members i;
  }

  -- those that join with the next frame do so, if they haven't yet
  abbrev pub after_joining : State values → State values
  after_joining s =
      if nat_lt (last_joined s) (suc s.frames) then with_joining (suc s.frames) s else s

-- ---- what the host posts

module _ {V : Type 0} {values : Values V} where
  -- the world after the posts, each of a value to a type
  abbrev pub after_posts : List (ℕ × V) → WorldState values → WorldState values
  after_posts [] w = w
  after_posts (p ∷ ps) w =
      after_posts ps (with_history w p.0 (write (by HOST p.1 ∷ []) (w.histories p.0)))

  -- the posts as steps, each a write by `HOST`
  abbrev pub post_steps : List (ℕ × V) → WorldState values → List (ℕ × Step values)
  post_steps [] w = []
  post_steps (p ∷ ps) w =
      let told : Reply V = write_reply (numbers_for (w.histories p.0) 1) in
      (HOST, record { op = Write p.0 p.1; places = λ t. 0; world = w; reply = told })
      ∷ post_steps ps (after_posts (p ∷ []) w)

  -- what the posts are answered
  abbrev pub post_replies : List (ℕ × V) → WorldState values → List (Reply V)
  post_replies posts w = map (λ x. x.1.reply) (post_steps posts w)

-- ---- turns

module _ {V : Type 0} where
  -- what came of a job
  abbrev pub outcome_of : Option (List (Reply V)) → Outcome V
  outcome_of None = Skipped
  outcome_of (Some replies) = Ran replies

module _ {V : Type 0} {values : Values V} where
  -- what the turn of system i comes to: it does its job
  abbrev pub turn_of : State values → ℕ → AfterJob values
  turn_of s i = after_job (s.members i).job s.world

  -- a member after its turn, whose totals count what the steps of that tell
  abbrev pub member_after : AfterJob values → Member V → Member V
  member_after done m =
      record m { job = done.job; totals = λ t. with_steps t done.steps (m.totals t) }

  -- the state after the turn of system i
  abbrev pub after_turn_of : ℕ → State values → State values
  after_turn_of i s = record s {
    members = λ k. if k == i then member_after (turn_of s i) (s.members i) else s.members k;
    world = (turn_of s i).world;
  }

  -- what the log says of it
  abbrev pub logged_turn : State values → ℕ → Turn V
  logged_turn s i = record { system = i; outcome = outcome_of (turn_of s i).replies }

-- What the turns of some systems leave, and the log of them.
pub record AfterTurns {V : Type 0} (values : Values V) : Type 0 where
  pub state : State values
  pub turns : List (Turn V)

module _ {V : Type 0} {values : Values V} where
  -- the turns of these systems, one after the other, on one thread
  abbrev pub after_turns_of : List ℕ → State values → AfterTurns values
  after_turns_of [] s = record { state = s; turns = [] }
  after_turns_of (i ∷ is) s =
      let rest : AfterTurns values = after_turns_of is (after_turn_of i s) in
      record { state = rest.state; turns = logged_turn s i ∷ rest.turns }

  -- the steps of these turns, one after the other, each beside the number of who took it
  abbrev pub turns_steps : List ℕ → State values → List (ℕ × Step values)
  turns_steps [] s = []
  turns_steps (i ∷ is) s =
      map (λ x. (i, x)) (turn_of s i).steps ++ turns_steps is (after_turn_of i s)

-- ---- a frame

module _ {V : Type 0} {values : Values V} where
  -- what comes before the turns: some join, the world is updated, and the posts are written
  abbrev pub before_turns : List (ℕ × V) → State values → State values
  before_turns posts s = record (after_joining s) {
    world = after_posts posts (after_update s.world);
    frames = suc s.frames;
  }

-- What a frame leaves, its log, and its steps: the posts, and those of the turns.
pub record AfterFrame {V : Type 0} (values : Values V) : Type 0 where
  pub state : State values
  pub log : Log V
  pub steps : List (ℕ × Step values)

module _ {V : Type 0} {values : Values V} where
  -- the frame whose systems take their turns in this order
  abbrev pub frame_in : List ℕ → Frame V → State values → AfterFrame values
  frame_in order frame s =
      let posts : List (ℕ × Step values) = post_steps frame.posts (after_update s.world) in
      let ready : State values = before_turns frame.posts s in
      let turns : AfterTurns values = after_turns_of order ready in
      record {
        state = turns.state;
        log = record { posts = map (λ x. x.1.reply) posts; turns = turns.turns };
        steps = posts ++ turns_steps order ready;
      }

module _ {V : Type 0} where
  -- what a member's job needs
  abbrev pub member_needs : Member V → Needs
  member_needs m = with_conditions m.job.system.needs (map (λ a. a.condition) m.job.conditions)

-- the accesses of the systems, in order of addition
pub record AreAccessesOf {V : Type 0} {values : Values V} (s : State values)
    (accesses : List Access) : Type 0 where
  pub each : length accesses ≡ s.systems
  pub of_needs : (i : ℕ) → i < s.systems
      → IsAccessOf (member_needs (s.members i)) (access_of accesses i)

-- ---- frames in the settled order

-- the parts that a world may have: its types, its resources, and the registry
unfoldable pub parts : List Part
parts = (map OfType (range_with_len 0 MAX_TYPES) ++ map OfResource (range_with_len 0 MAX_RESOURCES))
    ++ Registry ∷ []

-- one of two writes a part that the other reads or writes
abbrev pub needs_conflict : Needs → Needs → Bool
needs_conflict m n =
    list_any (λ p. (m.writes p && needs_any n p) || (n.writes p && needs_any m p)) parts

module _ {V : Type 0} {values : Values V} where
  -- the jobs of two systems are in conflict
  abbrev pub are_in_conflict : State values → ℕ → ℕ → Bool
  are_in_conflict s i j = needs_conflict (member_needs (s.members i)) (member_needs (s.members j))

  -- the settled order of those that have joined
  unfoldable pub settled_order : State values → Graph
  settled_order s = settled (are_in_conflict s) s.rules (join_flags s)

  -- the order in which those that have joined take their turns
  unfoldable pub turn_order : State values → List ℕ
  turn_order s = turns (settled_order s) (join_flags s)

  -- a frame, on one thread: its systems take their turns in the settled order
  abbrev pub frame : Frame V → State values → AfterFrame values
  frame f s = frame_in (turn_order (before_turns f.posts s)) f s

-- What frames leave, their logs, and their steps.
pub record AfterRun {V : Type 0} (values : Values V) : Type 0 where
  pub state : State values
  pub logs : List (Log V)
  pub steps : List (ℕ × Step values)

module _ {V : Type 0} {values : Values V} where
  -- frames one after the other
  abbrev pub run : List (Frame V) → State values → AfterRun values
  run [] s = record { state = s; logs = []; steps = [] }
  run (f ∷ fs) s =
      let here : AfterFrame values = frame f s in
      let rest : AfterRun values = run fs here.state in
      record { state = rest.state; logs = here.log ∷ rest.logs; steps = here.steps ++ rest.steps }

  -- each system needs only parts that a world may have
  abbrev pub UsesParts : State values → Type 0
  UsesParts s = (i : ℕ) → i < s.systems
      → FitsWorld MAX_TYPES MAX_RESOURCES (member_needs (s.members i))

module _ {V : Type 0} where
  -- the systems in the order in which the log has their turns
  abbrev pub turn_order_in : Log V → List ℕ
  turn_order_in log = map (λ turn. turn.system) log.turns
