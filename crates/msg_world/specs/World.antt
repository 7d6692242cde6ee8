-- The world that systems share: the history of each message type, the value of each resource, and
-- the registry of signals.
use Rattle.std.specs.Prelude.{ℕ, ℤ, pos, ◌+ℤ◌, Bool, true, false, not, ◌&&◌, ◌||◌, ◌==◌, List, slice_index, slice_index_or, if◌then◌else◌}
use Rattle.std.specs.{Ordering.int_eq, Int.saturate_signed, Int.w64}
use Rattle.msg_buffer.specs.Prelude.{History, empty, update}
use Rattle.msg_world.specs.{declared.record.Record.Record, declared.marks.Marks.Marks, declared.access.Access.Access, Access.Part, Access.OfType, Access.OfResource, Access.Registry, Access.writes}

-- What is known of values: some value, what adding makes of two, and whether two are the same.
pub record Values (V : Type 0) : Type 0 where
  pub some : V
  pub plus : V → V → V
  pub same : V → V → Bool

-- sums are held within the range of `i64`
abbrev pub i64_values : Values ℤ
i64_values = record { some = pos 0; plus = λ x y. saturate_signed w64 (x +ℤ y); same = int_eq }

-- a world: a history for each type and a value for each resource, by number, and the registry
pub record WorldState {V : Type 0} (values : Values V) : Type 0 where
  pub histories : ℕ → History (Record V)
  pub resources : ℕ → V
  pub marks : Marks

-- the type of what a world has of a part
abbrev pub Content : Type 0 → Part → Type 0
Content V (OfType t) = History (Record V)
Content V (OfResource r) = V
Content V Registry = Marks

module _ {V : Type 0} {values : Values V} where
  -- what a world has of a part
  abbrev pub content : (p : Part) → WorldState values → Content V p
  content (OfType t) s = s.histories t
  content (OfResource r) s = s.resources r
  content Registry s = s.marks

-- nothing was written, and no world is held at first
abbrev pub new_world : {V : Type 0} (values : Values V) → List ℕ → List V → WorldState values
new_world values limits resources = record {
  histories = λ t. empty (slice_index limits t);
  resources = λ r. slice_index_or resources r values.some;
  marks = record { held = false; pending = false };
}

module _ {V : Type 0} where
  -- a message of this writer
  abbrev pub by : ℕ → V → Record V
  by writer value = record { writer = writer; value = value }

module _ {V : Type 0} {values : Values V} where
  -- the world with another history of a type
  abbrev pub with_history : WorldState values → ℕ → History (Record V) → WorldState values
  with_history s t h = record s { histories = λ u. if u == t then h else s.histories u }

  -- the world with another value of a resource
  abbrev pub with_value_of : WorldState values → ℕ → V → WorldState values
  with_value_of s r z = record s { resources = λ q. if q == r then z else s.resources q }

  -- a held world waits until a signal is given
  abbrev pub waits : WorldState values → Bool
  waits s = s.marks.held && not s.marks.pending

  -- the frame's update: every type is updated, a signal is spent; a waiting world stays as it is
  abbrev pub after_update : WorldState values → WorldState values
  after_update s = if waits s then s else record s {
    histories = λ t. update (s.histories t);
    marks = record s.marks { pending = false };
  }

-- A signal makes a held world pending. It changes nothing if the world isn't held.
abbrev pub signalled_marks : Marks → Marks
signalled_marks m = record m { pending = m.pending || m.held }

module _ {V : Type 0} {values : Values V} where
  -- the world after a signal
  abbrev pub after_signal : WorldState values → WorldState values
  after_signal s = record s { marks = signalled_marks s.marks }

  -- held, and waiting
  abbrev pub held_world : WorldState values → WorldState values
  held_world s = record s { marks = record { held = true; pending = false } }

  -- The parts that an access writes as they are in one world, and all else as it is in another.
  abbrev pub merge : Access → WorldState values → WorldState values → WorldState values
  merge a mine others = record {
    histories = λ t. if writes a (OfType t) then mine.histories t else others.histories t;
    resources = λ r. if writes a (OfResource r) then mine.resources r else others.resources r;
    marks = if writes a Registry then mine.marks else others.marks;
  }
