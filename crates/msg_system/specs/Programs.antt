-- What an op reads and writes, what it does to the places of its system and to the world, what it
-- answers, and when it asks for memory; and a program, its ops in order.
use Rattle.std.specs.List.{enumerate_from}
use Rattle.std.specs.Prelude.{ℕ, ◌+◌, ◌<◌, ◌==◌, Bool, true, false, IsSome, Option, None, Some, List, [], ◌∷◌, fold, length, map, if◌then◌else◌}
use Rattle.msg_buffer.specs.declared.instance.Written.{Written}
use Rattle.msg_buffer.specs.Prelude.{History, clear, count, first, given, has_room, message_of, missed, oldest, present, unread, write}
use Rattle.msg_world.specs.{Prelude.WorldState, Prelude.after_signal, Prelude.by, Prelude.with_history, Prelude.with_value_of, declared.part.Part.TheVariants.OfResource, declared.part.Part.TheVariants.OfType, declared.part.Part.TheVariants.Registry, declared.record.Record.Record, Prelude.Values}
use Rattle.msg_system.specs.{declared.op.Op.Op, declared.op_parts.OpParts.OpParts, declared.reply.Refused.Refused, declared.reply.Reply.Reply, declared.reply.Took.Took}
use Rattle.msg_system.specs.declared.op.Op.TheVariants as op
use Rattle.msg_system.specs.declared.reply.Reply.TheVariants as reply

-- ---- what an op reads and writes

module _ {V : Type 0} where
  -- the part that an op reads, and the part that it writes
  abbrev pub op_parts : Op V → OpParts
  op_parts (op.Write t v) = record { read = None; written = Some (OfType t) }
  op_parts (op.Batch t vs) = record { read = None; written = Some (OfType t) }
  op_parts (op.Read t limit) = record { read = Some (OfType t); written = None }
  op_parts (op.Len t) = record { read = Some (OfType t); written = None }
  op_parts (op.Missed t) = record { read = Some (OfType t); written = None }
  op_parts (op.Clear t) = record { read = Some (OfType t); written = None }
  op_parts (op.Forward t u) = record { read = Some (OfType t); written = Some (OfType u) }
  op_parts (op.Sum t r) = record { read = Some (OfType t); written = Some (OfResource r) }
  op_parts (op.Get r) = record { read = Some (OfResource r); written = None }
  op_parts (op.Set r v) = record { read = None; written = Some (OfResource r) }
  op_parts (op.Add r v) = record { read = None; written = Some (OfResource r) }
  op_parts (op.Drain t) = record { read = None; written = Some (OfType t) }
  op_parts op.Signal = record { read = None; written = Some Registry }

-- ---- what an op does

-- What an op leaves, and what it answers. A system has a place in each type, by the type's number.
pub record AfterOp {V : Type 0} (values : Values V) : Type 0 where
  pub places : ℕ → ℕ
  pub world : WorldState values
  pub reply : Reply V

-- the places, with another one in this type
abbrev pub with_place : (ℕ → ℕ) → ℕ → ℕ → ℕ → ℕ
with_place places t place = λ u. if u == t then place else places u

module _ {V : Type 0} where
  -- what a read from a place takes: what was missed, the first number, and the messages
  abbrev pub took : History (Record V) → ℕ → Option ℕ → Took V
  took h place limit =
      record {
        missed = missed h place;
        first = first h place;
        items = map message_of (given h place limit);
      }

  -- the place after it
  abbrev pub place_after_read : History (Record V) → ℕ → Option ℕ → ℕ
  place_after_read h place limit = first h place + length (given h place limit)

  -- the numbers that so many messages get; none if too few are left
  abbrev pub numbers_for : History (Record V) → ℕ → Option Written
  numbers_for h n = if has_room h n then Some (record { first = count h; n = n }) else None

  -- what a write answers
  abbrev pub write_reply : Option Written → Reply V
  write_reply None = reply.Spent
  write_reply (Some numbers) = reply.Wrote numbers

  -- messages of this writer with the values of others
  abbrev pub again_by : ℕ → List (Record V) → List (Record V)
  again_by writer ms = map (λ m. by writer m.value) ms

-- the values of the messages added one by one
abbrev pub sum_onto : {V : Type 0} → (V → V → V) → V → List (Record V) → V
sum_onto plus z ms = fold (λ x m. plus x m.value) z ms

module _ {V : Type 0} {values : Values V} where
  -- an op that gives this answer, moves to these places, and leaves the world as it is
  abbrev pub answers : Reply V → (ℕ → ℕ) → WorldState values → AfterOp values
  answers r places s = record { places = places; world = s; reply = r }

  -- an op that writes these messages
  abbrev pub writes_all : ℕ → List (Record V) → (ℕ → ℕ) → WorldState values → AfterOp values
  writes_all t ms places s = record {
    places = places;
    world = with_history s t (write ms (s.histories t));
    reply = write_reply (numbers_for (s.histories t) (length ms));
  }

  -- an op that gives a resource this value
  abbrev pub sets_to : ℕ → V → (ℕ → ℕ) → WorldState values → AfterOp values
  sets_to r z places s =
      record { places = places; world = with_value_of s r z; reply = reply.Value z }

  -- One op of the system that writes as `w`.
  abbrev pub after_op : Op V → ℕ → (ℕ → ℕ) → WorldState values → AfterOp values
  after_op (op.Write t v) w ps s = writes_all t (by w v ∷ []) ps s
  after_op (op.Batch t vs) w ps s = writes_all t (map (by w) vs) ps s
  after_op (op.Read t limit) w ps s =
      answers (reply.Read (took (s.histories t) (ps t) limit))
      (with_place ps t (place_after_read (s.histories t) (ps t) limit)) s
  after_op (op.Len t) w ps s = answers (reply.Len (length (unread (s.histories t) (ps t)))) ps s
  after_op (op.Missed t) w ps s = answers (reply.Missed (missed (s.histories t) (ps t))) ps s
  after_op (op.Clear t) w ps s =
      let h : History (Record V) = s.histories t in
      answers (reply.Cleared (missed h (ps t)) (first h (ps t)) (length (unread h (ps t))))
      (with_place ps t (count h)) s
  after_op (op.Forward t u) w ps s =
      let taken : Took V = took (s.histories t) (ps t) None in
      let ms : List (Record V) = again_by w taken.items in
      record {
        places = with_place ps t (place_after_read (s.histories t) (ps t) None);
        world = with_history s u (write ms (s.histories u));
        reply = reply.Forwarded taken (numbers_for (s.histories u) (length ms));
      }
  after_op (op.Sum t r) w ps s =
      let taken : Took V = took (s.histories t) (ps t) None in
      let z : V = sum_onto values.plus (s.resources r) taken.items in
      record {
        places = with_place ps t (place_after_read (s.histories t) (ps t) None);
        world = with_value_of s r z;
        reply = reply.Summed taken z;
      }
  after_op (op.Get r) w ps s = answers (reply.Value (s.resources r)) ps s
  after_op (op.Set r v) w ps s = sets_to r v ps s
  after_op (op.Add r v) w ps s = sets_to r (values.plus (s.resources r) v) ps s
  after_op (op.Drain t) w ps s = record {
    places = ps;
    world = with_history s t (clear (s.histories t));
    reply = reply.Drained (oldest (s.histories t)) (map message_of (present (s.histories t)));
  }
  after_op op.Signal w p s = record { places = p; world = after_signal s; reply = reply.Signalled }

-- ---- what a reply tells

module _ {V : Type 0} where
  -- what the op took, if it read messages
  abbrev pub reply_took : Reply V → Option (Took V)
  reply_took (reply.Read taken) = Some taken
  reply_took (reply.Forwarded taken numbers) = Some taken
  reply_took (reply.Summed taken value) = Some taken
  reply_took _ = None

  -- what an op of system i that was answered so wrote to type t, each message with its number
  abbrev pub wrote : ℕ → ℕ → Op V → Reply V → List (ℕ × Record V)
  wrote t i (op.Write u v) (reply.Wrote n) =
      if u == t then enumerate_from n.first (by i v ∷ []) else []
  wrote t i (op.Batch u vs) (reply.Wrote n) =
      if u == t then enumerate_from n.first (map (by i) vs) else []
  wrote t i (op.Forward a u) (reply.Forwarded taken (Some n)) =
      if u == t then enumerate_from n.first (again_by i taken.items) else []
  wrote t i _ _ = []

  -- The reply tells that messages weren't written: too few numbers of their type were left.
  abbrev pub is_spent : Reply V → Bool
  is_spent reply.Spent = true
  is_spent (reply.Forwarded taken None) = true
  is_spent _ = false

  -- what an op that was answered so didn't write: of which type, and how many messages
  abbrev pub refused_by : Op V → Reply V → Option Refused
  refused_by (op.Write t v) reply.Spent = Some (record { of_type = t; n = 1 })
  refused_by (op.Batch t vs) reply.Spent = Some (record { of_type = t; n = length vs })
  refused_by (op.Forward a t) (reply.Forwarded taken None) =
      Some (record { of_type = t; n = length taken.items })
  refused_by _ _ = None

-- ---- when an op asks for memory

module _ {V : Type 0} {values : Values V} where
  -- An op asks for memory only if it writes, gives or drops something.
  abbrev pub AsksForMemory : Op V → (ℕ → ℕ) → WorldState values → Type 0
  AsksForMemory (op.Write t v) places s = IsSome (numbers_for (s.histories t) 1)
  AsksForMemory (op.Batch t vs) places s = 0 < length vs
  AsksForMemory (op.Read t limit) places s = 0 < length (given (s.histories t) (places t) limit)
  AsksForMemory (op.Forward t u) places s = 0 < length (given (s.histories t) (places t) None)
  AsksForMemory (op.Sum t r) places s = 0 < length (given (s.histories t) (places t) None)
  AsksForMemory (op.Drain t) places s = 0 < length (present (s.histories t))
  AsksForMemory _ places s = ⊥

-- ---- programs

-- One op as it was done: which, from which places and on which world, and what it was answered.
pub record Step {V : Type 0} (values : Values V) : Type 0 where
  pub op : Op V
  pub places : ℕ → ℕ
  pub world : WorldState values
  pub reply : Reply V

-- What a program leaves, what its ops answer, one reply each, and its steps.
pub record AfterProgram {V : Type 0} (values : Values V) : Type 0 where
  pub places : ℕ → ℕ
  pub world : WorldState values
  pub replies : List (Reply V)
  pub steps : List (Step values)

module _ {V : Type 0} {values : Values V} where
  -- the ops one after the other
  abbrev pub after_program : List (Op V) → ℕ → (ℕ → ℕ) → WorldState values → AfterProgram values
  after_program [] w ps s = record { places = ps; world = s; replies = []; steps = [] }
  after_program (this ∷ ops) w ps s =
      let here : AfterOp values = after_op this w ps s in
      let rest : AfterProgram values = after_program ops w here.places here.world in
      record {
        places = rest.places;
        world = rest.world;
        replies = here.reply ∷ rest.replies;
        steps = record { op = this; places = ps; world = s; reply = here.reply } ∷ rest.steps;
      }
