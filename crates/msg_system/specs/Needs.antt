-- What ops, programs, conditions and jobs read and write, part by part.
use Rattle.std.specs.Prelude.{◌≡◌, ℕ, Bool, true, false, not, ◌&&◌, ◌||◌, IsTrue, Option, Some, None, List, option_and_then, slice_get}
use Rattle.std.specs.List.{list_any}
use Rattle.msg_world.specs.{Prelude.HasPart, Prelude.Overlap, declared.part.Part.Part, declared.part.Part.TheVariants.OfType, declared.part.Part.TheVariants.OfResource, Prelude.reads, Prelude.same_part, Prelude.writes, declared.access.Access.Access}
use Rattle.msg_system.specs.{Programs.op_parts, Programs.refused_by, declared.op.Op.Op, declared.reply.Refused.Refused, declared.reply.Reply.Reply, declared.condition.Condition.Condition, declared.condition.Probe.Probe, declared.condition.Probe.TheVariants.OnMessage, declared.condition.Probe.TheVariants.ResourceEquals}

-- true if there is no part, and else what `holds` says of the part
abbrev pub is_none_or : (Part → Bool) → Option Part → Bool
is_none_or holds part = elim part [ None ↦ true | Some p ↦ holds p ]

-- the type, if the part is one
abbrev pub type_in_part : Part → Option ℕ
type_in_part (OfType t) = Some t
type_in_part _ = None

module _ {V : Type 0} where
  -- the type that an op reads
  abbrev pub type_read : Op V → Option ℕ
  type_read op = option_and_then type_in_part (op_parts op).read

  -- the type that an op writes
  abbrev pub type_written : Op V → Option ℕ
  type_written op = option_and_then type_in_part (op_parts op).written

  -- the type that op k of a program reads; none if there is no such op
  abbrev pub type_read_by : List (Op V) → ℕ → Option ℕ
  type_read_by ops k = option_and_then type_read (slice_get ops k)

  -- what op k of a program didn't write, if it was answered so; none if there is no such op
  abbrev pub refused_in : List (Op V) → ℕ → Reply V → Option Refused
  refused_in ops k reply = option_and_then (λ op. refused_by op reply) (slice_get ops k)

-- Which parts are read, and which are written.
pub record Needs : Type 0 where
  pub reads : Part → Bool
  pub writes : Part → Bool

-- a part is both read and written, which no system of an engine may do
abbrev pub HasClash : Needs → Type 0
HasClash n = Overlap n.reads n.writes

-- the part is read or written
abbrev pub needs_any : Needs → Part → Bool
needs_any n p = n.reads p || n.writes p

-- a world of so many types and resources has all that is needed
abbrev pub FitsWorld : ℕ → ℕ → Needs → Type 0
FitsWorld types resources n = (p : Part) → IsTrue (needs_any n p) → HasPart types resources p

-- whether there is such a part, and p is that part
abbrev pub is_part : Option Part → Part → Bool
is_part None p = false
is_part (Some q) p = same_part p q

module _ {V : Type 0} where
  -- what an op reads and writes
  abbrev pub op_needs : Op V → Needs
  op_needs op =
      record { reads = is_part (op_parts op).read; writes = is_part (op_parts op).written }

  -- an op of the list reads the part
  abbrev pub some_op_reads : List (Op V) → Part → Bool
  some_op_reads ops p = list_any (λ op. (op_needs op).reads p) ops

  -- an op of the list writes the part
  abbrev pub some_op_writes : List (Op V) → Part → Bool
  some_op_writes ops p = list_any (λ op. (op_needs op).writes p) ops

-- the part is a resource
abbrev pub is_resource : Part → Bool
is_resource (OfResource r) = true
is_resource _ = false

module _ {V : Type 0} where
  -- A program writes what an op of it writes, and reads what an op of it reads. A resource that is
  -- also written isn't listed as read: it is used once, for writing. A type that is both read and
  -- written stays both: that is the clash.
  abbrev pub program_needs : List (Op V) → Needs
  program_needs ops = record {
    reads = λ p. some_op_reads ops p && not (is_resource p && some_op_writes ops p);
    writes = some_op_writes ops;
  }

  -- the part that a probe looks at, which is all that its condition needs
  abbrev pub probe_part : Probe V → Part
  probe_part (OnMessage t) = OfType t
  probe_part (ResourceEquals r v) = OfResource r

  -- a condition reads the part that its probe looks at, and writes none
  abbrev pub condition_needs : Condition V → Needs
  condition_needs c = record { reads = λ p. same_part p (probe_part c.probe); writes = λ p. false }

-- the part may be read: it is listed as read, or it is a resource that is written
abbrev pub may_read : Needs → Part → Bool
may_read n p = n.reads p || (is_resource p && n.writes p)

module _ {V : Type 0} where
  -- the op reads and writes no more than these
  abbrev pub keeps_to : Needs → Op V → Bool
  keeps_to n op = is_none_or (may_read n) (op_parts op).read && is_none_or n.writes
      (op_parts op).written

  -- one of the conditions reads the part
  abbrev pub some_condition_reads : List (Condition V) → Part → Bool
  some_condition_reads cs p = list_any (λ c. (condition_needs c).reads p) cs

  -- what is needed with conditions, which write nothing; what is written isn't listed as read
  abbrev pub with_conditions : Needs → List (Condition V) → Needs
  with_conditions n cs = record {
    reads = λ p. (n.reads p || some_condition_reads cs p) && not (n.writes p);
    writes = n.writes;
  }

  -- A job needs what its program and its conditions need.
  abbrev pub job_needs : List (Op V) → List (Condition V) → Needs
  job_needs ops cs = with_conditions (program_needs ops) cs

-- what an access reads and writes
abbrev pub needs_of : Access → Needs
needs_of a = record { reads = reads a; writes = writes a }

-- the access has exactly these parts
pub record IsAccessOf (n : Needs) (a : Access) : Type 0 where
  pub reads : (p : Part) → reads a p ≡ n.reads p
  pub writes : (p : Part) → writes a p ≡ n.writes p
