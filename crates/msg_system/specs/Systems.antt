-- What a system means, and what its turn is.
use Rattle.std.specs.Prelude.{All, ◌≡◌, ℕ, zero, suc, ◌<◌, ◌≤◌, ◌++◌, Bool, true, false, ◌&&◌, nat_lt, IsTrue, Option, Some, None, option_and_then, option_map, option_to_list, unwrap_or, List, [], ◌∷◌, length, map, slice_get, if◌then◌else◌}
use Rattle.msg_world.specs.{declared.part.Part.TheVariants.OfType, Prelude.WorldState, Prelude.Values}
use Rattle.msg_system.specs.{declared.limits.TheConstants.MAX_OPS, declared.op.Op.Op, declared.program.Program.Program, declared.reply.Reply.Reply, declared.start.Start.Start}
use Rattle.msg_system.specs.declared.reply.Reply.TheVariants as reply
use Rattle.msg_system.specs.declared.start.Start.TheVariants.{Zero, Current}
use Rattle.msg_system.specs.Needs.{Needs, keeps_to, program_needs}
use Rattle.msg_system.specs.Programs.{AfterOp, AfterProgram, Step, after_op, after_program}

-- `rule turns now` is what a system does next: after whole turns from now on that were answered by
-- `turns`, the oldest first, and by `now` so far in this one. None ends the turn.
abbrev pub OpRule : Type 0 → Type 0
OpRule V = List (List (Reply V)) → List (Reply V) → Option (Op V)

-- A system is what it needs, where its cursors start, the number that it writes as, its place in
-- each type, and its rule.
pub record Meaning (V : Type 0) : Type 0 where
  pub needs : Needs
  pub start : Start
  pub writer : ℕ
  pub places : ℕ → ℕ
  pub rule : OpRule V
  -- the ops of its last turn; of a program, always its ops
  pub last : List (Op V)

-- ---- a turn

module _ {V : Type 0} where
  -- the op that a rule gives after these replies of its turn, if it is done: it is one of the first
  -- `MAX_OPS`, and keeps to what is needed
  abbrev pub next_done : Needs → (List (Reply V) → Option (Op V)) → List (Reply V) → Option (Op V)
  next_done n rule replies = option_and_then
      (λ op. if nat_lt (length replies) MAX_OPS && keeps_to n op then Some op else None)
      (rule replies)

  -- the next op of its turn, by the replies so far
  abbrev pub next_op : Meaning V → List (Reply V) → Option (Op V)
  next_op m replies = next_done m.needs (m.rule []) replies

  -- what is answered to an op after these replies, if it isn't done
  abbrev pub refusal : List (Reply V) → Op V → Reply V
  refusal replies op = if nat_lt (length replies) MAX_OPS then reply.Outside op else reply.Full op

  -- What a turn ends with after these replies, of which no more are done: if the rule gives one op
  -- more, the turn is cut before it, and that is told.
  abbrev pub cut_after : (List (Reply V) → Option (Op V)) → List (Reply V) → List (Reply V)
  cut_after rule replies = option_to_list (option_map (refusal replies) (rule replies))

  -- the reply tells that its turn was cut
  abbrev pub is_cut : Reply V → Bool
  is_cut (reply.Outside op) = true
  is_cut (reply.Full op) = true
  is_cut _ = false

module _ {V : Type 0} {values : Values V} where
  -- one op more; or nothing, if the turn is over
  abbrev pub one_more : Option (Op V) → ℕ → AfterProgram values → AfterProgram values
  one_more None w far = far
  one_more (Some op) w far =
      let here : AfterOp values = after_op op w far.places far.world in
      record {
        places = here.places;
        world = here.world;
        replies = far.replies ++ here.reply ∷ [];
        steps = far.steps
            ++ record { op = op; places = far.places; world = far.world; reply = here.reply } ∷ [];
      }

  -- After at most so many ops: what comes next is asked by the replies so far, and that op is done.
  -- A rule that has ended is asked the same again, and ends again.
  abbrev pub after_at_most : ℕ → (List (Reply V) → Option (Op V))
      → ℕ → (ℕ → ℕ) → WorldState values → AfterProgram values
  after_at_most zero next w ps s = record { places = ps; world = s; replies = []; steps = [] }
  after_at_most (suc n) next w ps s =
      let far : AfterProgram values = after_at_most n next w ps s in
      one_more (next far.replies) w far

  -- its turn on a world, from its places: at most `MAX_OPS` ops, and if it is cut then, that is told
  unfoldable pub turn : Meaning V → WorldState values → AfterProgram values
  turn m s =
      let far : AfterProgram values = after_at_most MAX_OPS (next_op m) m.writer m.places s in
      record far { replies = far.replies ++ cut_after (m.rule []) far.replies }

module _ {V : Type 0} where
  -- the ops that were done, if these are the replies to what a turn asked for
  abbrev pub ops_answered : (List (Reply V) → Option (Op V)) → List (Reply V) → List (Op V)
  ops_answered next [] = []
  ops_answered next (r ∷ rs) = option_to_list (next [])
      ++ ops_answered (λ replies. next (r ∷ replies)) rs

  -- what a system means once it was told the replies of a turn; its places are as before
  abbrev pub after_replies : List (Reply V) → Meaning V → Meaning V
  after_replies replies m =
      record m {
        rule = λ turns now. m.rule (replies ∷ turns) now;
        last = ops_answered (next_op m) replies;
      }

module _ {V : Type 0} {values : Values V} where
  -- what it means after its turn
  abbrev pub after_turn : Meaning V → WorldState values → Meaning V
  after_turn m s = record (after_replies (turn m s).replies m) { places = (turn m s).places }

-- ---- where it starts

-- where a cursor of a type starts, by how many messages of each type were ever written
abbrev pub start_place : Start → List ℕ → ℕ → ℕ
start_place Zero counts t = 0
start_place Current counts t = unwrap_or (slice_get counts t) 0

-- the places in the types that are read are where they start, the others as they were
abbrev pub started_places : Needs → Start → List ℕ → (ℕ → ℕ) → ℕ → ℕ
started_places n start counts places t = if n.reads (OfType t) then start_place start counts t
    else places t

module _ {V : Type 0} where
  -- the system with its cursors where they start
  abbrev pub after_start : List ℕ → Meaning V → Meaning V
  after_start counts m = record m { places = started_places m.needs m.start counts m.places }

-- ---- programs

module _ {V : Type 0} where
  -- op k after k replies, whatever they were
  abbrev pub program_rule : List (Op V) → OpRule V
  program_rule ops turns replies = slice_get ops (length replies)

  -- a system whose rule is this program
  abbrev pub of_program : Program V → ℕ → (ℕ → ℕ) → Meaning V
  of_program program writer places = record {
    needs = program_needs program.ops;
    start = program.start;
    writer = writer;
    places = places;
    rule = program_rule program.ops;
    last = program.ops;
  }

  -- a system of this program that was given nothing yet
  abbrev pub new_system : Program V → ℕ → Meaning V
  new_system program writer = of_program program writer (λ t. 0)

  -- the program of one op
  abbrev pub only : Op V → Start → Program V
  only op start = record { ops = op ∷ []; start = start }

-- The turn of a program is its ops in order, and after it the system is that program still.
abbrev pub IsInOrder : {V : Type 0} → Values V → Type 0
IsInOrder {V} values = (program : Program V) (writer : ℕ) (places : ℕ → ℕ) (s : WorldState values)
    → length program.ops ≤ MAX_OPS →
    let m : Meaning V = of_program program writer places in
    (turn m s ≡ after_program program.ops writer places s)
    × (after_turn m s ≡ of_program program writer (turn m s).places)

-- ---- turns that nothing cuts

-- What a system's rule comes to on a world if nothing cuts it: it is asked by the replies so far,
-- and each op that it gives is done, until it gives none.
pub record IsUncut {V : Type 0} {values : Values V} (m : Meaning V) (s : WorldState values)
    (done : AfterProgram values) : Type 0 where
  pub asked : ℕ
  pub far : done ≡ after_at_most asked (m.rule []) m.writer m.places s
  pub ended : m.rule [] done.replies ≡ None

-- Only two things cut a turn. If what its rule comes to is at most `MAX_OPS` ops, and each keeps to
-- what the system needs, that is its turn.
abbrev pub TurnsWithinBounds : {V : Type 0} → Values V → Type 0
TurnsWithinBounds {V} values = (m : Meaning V) (s : WorldState values) (done : AfterProgram values)
    → IsUncut m s done → length done.steps ≤ MAX_OPS
    → All (λ step. IsTrue (keeps_to m.needs step.op)) done.steps → turn m s ≡ done

-- Whatever it is told in its next turn, its rule gives only ops that keep to what the system needs,
-- and none after `MAX_OPS` replies.
pub record KeepsWithinBounds {V : Type 0} (m : Meaning V) : Type 0 where
  pub kept : (replies : List (Reply V)) (op : Op V) → m.rule [] replies ≡ Some op
      → IsTrue (keeps_to m.needs op)
  pub ends : (replies : List (Reply V)) → length replies ≡ MAX_OPS → m.rule [] replies ≡ None

-- The turn of such a system isn't cut, whatever the world.
abbrev pub TurnsAreWhole : {V : Type 0} → Values V → Type 0
TurnsAreWhole {V} values = (m : Meaning V) (s : WorldState values) → KeepsWithinBounds m
    → IsUncut m s (turn m s)

-- The turn of a system on a world isn't cut, and its ops are those that it tells.
pub record IsWholeTurn {V : Type 0} {values : Values V} (m : Meaning V)
    (s : WorldState values) : Type 0 where
  pub uncut : IsUncut m s (turn m s)
  pub all : map (λ (step : Step values). step.op) (turn m s).steps ≡ m.last

-- ---- turns that begin alike

-- Whatever it is told, each of its turns begins with these ops, which keep to what it needs.
pub record BeginsTurnsWith {V : Type 0} (ops : List (Op V)) (m : Meaning V) : Type 0 where
  pub few : length ops ≤ MAX_OPS
  pub kept : All (λ op. IsTrue (keeps_to m.needs op)) ops
  pub each : (turns : List (List (Reply V))) (replies : List (Reply V))
      → length replies < length ops → m.rule turns replies ≡ slice_get ops (length replies)
