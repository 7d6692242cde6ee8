-- What a function is given and answers, and what its system does.
use Rattle.std.specs.Prelude.{All, ◌≡◌, ◌≢◌, false, true, ℕ, suc, ◌<◌, ◌==◌, ◌-◌, ◌++◌, Bool, not, ◌&&◌, List, [], ◌∷◌, Option, Some, None, drop, fold, length, map, nat_lt, option_map, option_to_list, replicate, slice_get, slice_index_or, take, if◌then◌else◌}
use Rattle.std.specs.List.{list_any, range_with_len}
use Rattle.std.specs.Option.{option_map_or}
use Rattle.msg_buffer.specs.Prelude.{has_room, message_of, missed, unread, write}
use Rattle.msg_world.specs.declared.part.Part.{Part}
use Rattle.msg_world.specs.declared.part.Part.TheVariants.{OfType, OfResource}
use Rattle.msg_world.specs.declared.record.Record.{Record}
use Rattle.msg_world.specs.Prelude.{Values, WorldState, by, content, same_part}
use Rattle.msg_system.specs.declared.reply.Reply.{Reply}
use Rattle.msg_system.specs.declared.reply.Reply.TheVariants as reply
use Rattle.msg_system.specs.declared.op.Op.{Op}
use Rattle.msg_system.specs.declared.op.Op.TheVariants as op
use Rattle.msg_system.specs.declared.start.Start.{Start}
use Rattle.msg_system.specs.Prelude.{Meaning, Needs, OpRule, after_program, after_turn, brought, is_cut, is_resource, is_spent, turn}
use Rattle.msg_function.specs.declared.inbox.Inbox.{Inbox}
use Rattle.msg_function.specs.declared.outbox.Outbox.{Outbox}
use Rattle.msg_function.specs.declared.port.Port.{Port}
use Rattle.msg_function.specs.declared.port.Port.TheVariants.{Messages, Resource}

-- ---- what it is given

-- What came of each part that is read: its messages, how many were missed, or its value. And of each
-- part that is written, whether what was answered to it in the last turn was refused. A part that
-- isn't there has nothing to read, and refuses all.
pub record Given (V : Type 0) : Type 0 where
  pub messages : ℕ → List (Record V)
  pub missed : ℕ → ℕ
  pub value : ℕ → Option V
  pub spent : ℕ → Bool

module _ {V : Type 0} where
  -- how many messages a reply says were missed
  abbrev pub missed_of : Option (Reply V) → ℕ
  missed_of (Some (reply.Read took)) = took.missed
  missed_of _ = 0

  -- the value that a reply tells
  abbrev pub value_of : Option (Reply V) → Option V
  value_of (Some (reply.Value v)) = Some v
  value_of _ = None

  -- what is given by which parts were refused, and by the replies to what is read
  abbrev pub given_by : List Bool → List (Reply V) → Given V
  given_by refused replies = record {
    messages = λ k. brought (slice_get replies k);
    missed = λ k. missed_of (slice_get replies k);
    value = λ k. value_of (slice_get replies k);
    spent = λ k. slice_index_or refused k true;
  }

  -- what an inbox has
  abbrev pub given : Inbox V → Given V
  given inbox = given_by inbox.refused.now inbox.replies.now

  -- how many parts may be asked for
  abbrev pub parts : Inbox V → ℕ
  parts inbox = inbox.parts

  -- how many parts may be written
  abbrev pub written_parts : Inbox V → ℕ
  written_parts inbox = inbox.written_parts

-- ---- what it answers

-- the values for each part that is written, by its place
abbrev pub Answer : Type 0 → Type 0
Answer V = ℕ → List V

module _ {V : Type 0} where
  -- no values
  abbrev pub nothing : Answer V
  nothing k = []

  -- these values more for part k
  abbrev pub put_all : ℕ → List V → Answer V → Answer V
  put_all k values answer = λ j. if j == k then answer j ++ values else answer j

  -- one more
  abbrev pub put : ℕ → V → Answer V → Answer V
  put k value answer = put_all k (value ∷ []) answer

  -- what an outbox has
  abbrev pub answered : {n : ℕ} → Outbox V n → Answer V
  answered outbox k = slice_index_or (map (λ list. list.items) outbox.lists.items) k []

-- ---- its ops

module _ {V : Type 0} where
  -- the op that reads a part
  abbrev pub read_op : Port → Op V
  read_op (Messages t) = op.Read t None
  read_op (Resource r) = op.Get r

  -- the op that writes values to a part: a batch, or to a resource the last of them
  abbrev pub write_op : Port → List V → V → Op V
  write_op (Messages t) values last = op.Batch t values
  write_op (Resource r) values last = op.Set r last

  -- the same; none if there are no values
  abbrev pub written_op : Port → List V → List (Op V)
  written_op port values =
      option_to_list (option_map (write_op port values) (slice_get values (length values - 1)))

  -- the ops that write an answer, part by part
  abbrev pub written_ops : List Port → Answer V → List (Op V)
  written_ops [] answer = []
  written_ops (port ∷ ports) answer =
      written_op port (answer 0) ++ written_ops ports (λ k. answer (suc k))

-- ---- what was refused

module _ {V : Type 0} where
  -- Part k was refused, by the replies to what was written: something was answered to it, and the
  -- reply to that, which stands behind those of the parts before it, says so.
  abbrev pub was_refused : List Port → Answer V → List (Reply V) → ℕ → Bool
  was_refused ports answer replies k =
      nat_lt 0 (length (answer k)) && option_map_or is_spent
      (slice_get replies (length (written_ops (take k ports) answer))) false

  -- of each part, whether it was refused
  abbrev pub refused_parts : List Port → Answer V → List (Reply V) → List Bool
  refused_parts ports answer replies =
      map (was_refused ports answer replies) (range_with_len 0 (length ports))

-- ---- its system

-- the part of a port
abbrev pub part_of : Port → Part
part_of (Messages t) = OfType t
part_of (Resource r) = OfResource r

-- the type, if the port is one
abbrev pub port_type : Port → Option ℕ
port_type (Messages t) = Some t
port_type (Resource r) = None

-- one of the ports is this part
abbrev pub some_port_is : List Port → Part → Bool
some_port_is ports p = list_any (λ port. same_part p (part_of port)) ports

-- A resource that is also written isn't listed as read: it is used once, for writing. A type that is
-- both read and written stays both: that is a clash, with which no engine is built.
abbrev pub ports_needs : List Port → List Port → Needs
ports_needs reads writes = record {
  reads = λ p. some_port_is reads p && not (is_resource p && some_port_is writes p);
  writes = some_port_is writes;
}

-- a function: of a memory and of what is given it makes the memory after it, and the answer
abbrev pub FunctionOf : Type 0 → Type 0 → Type 0
FunctionOf V M = M → Given V → M × Answer V

-- What is kept from turn to turn: the memory, and of each part that is written whether what was
-- answered to it in the last turn was refused.
pub record Kept (M : Type 0) : Type 0 where
  pub memory : M
  pub refused : List Bool

-- nothing was answered yet
abbrev pub unrefused : {M : Type 0} → List Port → M → Kept M
unrefused writes memory = record { memory = memory; refused = replicate (length writes) false }

module _ {V M : Type 0} (answers : FunctionOf V M) (reads writes : List Port) where
  -- what it makes of the replies of a turn, of which the first are those to what it reads
  abbrev pub made_of : Kept M → List (Reply V) → M × Answer V
  made_of kept replies = answers kept.memory (given_by kept.refused (take (length reads) replies))

  -- the ops of a turn: it reads each part, and then writes what it answers to that
  abbrev pub turn_ops : Kept M → List (Reply V) → List (Op V)
  turn_ops kept replies = map read_op reads ++ written_ops writes (made_of kept replies).1

  -- what is kept of a memory and an answer, by the replies of the turn
  abbrev pub kept_of : M × Answer V → List (Reply V) → Kept M
  kept_of made replies = record {
    memory = made.0;
    refused = refused_parts writes made.1 (drop (length reads) replies);
  }

  -- what is kept after turns that were answered so
  abbrev pub kept_after : Kept M → List (List (Reply V)) → Kept M
  kept_after kept turns = fold (λ k replies. kept_of (made_of k replies) replies) kept turns

  -- its rule: op k of the turn after k replies
  abbrev pub function_rule : Kept M → OpRule V
  function_rule kept turns replies =
      slice_get (turn_ops (kept_after kept turns) replies) (length replies)

  -- the system of a function that has kept this, after a turn with these last ops
  abbrev pub of_function : Kept M → Start → ℕ → (ℕ → ℕ) → List (Op V) → Meaning V
  of_function kept start writer places last = record {
    needs = ports_needs reads writes;
    start = start;
    writer = writer;
    places = places;
    rule = function_rule kept;
    last = last;
  }

  -- one that was given nothing yet
  abbrev pub new_function : M → Start → ℕ → Meaning V
  new_function memory start writer =
      of_function (unrefused writes memory) start writer (λ t. 0) (map read_op reads)

module _ {V M : Type 0} {values : Values V} (answers : FunctionOf V M) (reads writes : List Port) where
  -- what it makes of what it reads in its turn on a world
  abbrev pub made_on : Kept M → Meaning V → WorldState values → M × Answer V
  made_on kept m s = answers kept.memory
      (given_by kept.refused (after_program (map read_op reads) m.writer m.places s).replies)

  -- what it reads there, and then all that it answers to that
  abbrev pub ops_on : Kept M → Meaning V → WorldState values → List (Op V)
  ops_on kept m s = map read_op reads ++ written_ops writes (made_on kept m s).1

-- no reply of a turn tells that it was cut
abbrev pub TellsOfNoCut : {V : Type 0} {values : Values V} → Meaning V → WorldState values → Type 0
TellsOfNoCut m s = All (λ reply. is_cut reply ≡ false) (turn m s).replies

-- A turn is never cut: it is all that is read, and then all that is answered to that. After it the
-- system has the memory that was made of that, and knows which parts were refused.
pub record TurnIsWhole {V M : Type 0} {values : Values V} (answers : FunctionOf V M)
    (reads writes : List Port) (kept : Kept M) (m : Meaning V) (s : WorldState values) : Type 0 where
  pub is : turn m s ≡ after_program (ops_on answers reads writes kept m s) m.writer m.places s
  pub after : after_turn m s
      ≡ of_function answers reads writes
      (kept_of answers reads writes (made_on answers reads writes kept m s) (turn m s).replies)
      m.start m.writer (turn m s).places (ops_on answers reads writes kept m s)
  pub uncut : TellsOfNoCut m s

-- ---- what it is given of a world

-- port k is the first of the ports that is this one
abbrev pub IsFirstAt : List Port → ℕ → Port → Type 0
IsFirstAt ports k port =
    (slice_get ports k ≡ Some port) × ((j : ℕ) → j < k → slice_get ports j ≢ Some port)

-- It is given the world as its turn finds it: of a type the messages that it hasn't read yet and that
-- are still kept, and how many were dropped before it could read them; of a resource the value.
pub record IsGivenTheWorld {V : Type 0} {values : Values V} (reads : List Port) (m : Meaning V)
    (s : WorldState values) (given : Given V) : Type 0 where
  pub messages : (k t : ℕ) → IsFirstAt reads k (Messages t)
      → given.messages k ≡ map message_of (unread (s.histories t) (m.places t))
  pub missed : (k t : ℕ) → IsFirstAt reads k (Messages t)
      → given.missed k ≡ missed (s.histories t) (m.places t)
  pub value : (k r : ℕ) → slice_get reads k ≡ Some (Resource r)
      → given.value k ≡ Some (s.resources r)

-- ---- what comes of its answer

-- port k is this one, and no other of the ports is
abbrev pub IsOnlyAt : List Port → ℕ → Port → Type 0
IsOnlyAt ports k port =
    (slice_get ports k ≡ Some port) × ((j : ℕ) → slice_get ports j ≡ Some port → j ≡ k)

-- What an answer comes to: the world before it was written and after that, and the replies to it.
pub record IsWritten {V : Type 0} {values : Values V} (writes : List Port) (answer : Answer V)
    (writer : ℕ) (before after : WorldState values) (replies : List (Reply V)) : Type 0 where
  -- a resource has the last of its values
  pub value : (k r : ℕ) (earlier : List V) (last : V) → IsOnlyAt writes k (Resource r)
      → answer k ≡ earlier ++ last ∷ [] → after.resources r ≡ last
  -- a type has all of its messages too, in order at the end; or none, if too few numbers are left
  pub messages : (k t : ℕ) → IsOnlyAt writes k (Messages t)
      → after.histories t ≡ write (map (by writer) (answer k)) (before.histories t)
  -- then it is told that they were refused, if there are some
  pub refused : (k t : ℕ) → IsOnlyAt writes k (Messages t) → 0 < length (answer k)
      → was_refused writes answer replies k
      ≡ not (has_room (before.histories t) (length (answer k)))
  -- a part to which nothing was answered stays as it was
  pub others : (p : Part) → ((k : ℕ) (port : Port) → slice_get writes k ≡ Some port
      → part_of port ≡ p → answer k ≡ []) → content p after ≡ content p before

-- What a turn answers is in the world that it leaves.
abbrev pub AnswerIsWritten : {V M : Type 0} {values : Values V} → FunctionOf V M → List Port
    → List Port → Kept M → Meaning V → WorldState values → Type 0
AnswerIsWritten answers reads writes kept m s =
    IsWritten writes (made_on answers reads writes kept m s).1 m.writer s (turn m s).world
    (drop (length reads) (turn m s).replies)
