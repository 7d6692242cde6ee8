-- What the systems of a scenario file use is there, and so are the types that its frames post to.
use Rattle.std.proofs.Common.{◌≡◌, ℕ, ℤ, ◌<◌, List, [], ◌∷◌, length, Option, Some, true, arith, All, IfOk, IfSome, codes}
use Rattle.std.proofs.lemmas.{Bool.eqb-true, List.Elements.All-head, List.Elements.All-tail, List.Elements.All-weaker, List.Quantifiers.position-Some, Result.IfOk-at_ok}
use Rattle.std.specs.{List.list_any, Str.bytes_eq}
use Rattle.serde_json.specs.Data.{Data}
use Rattle.msg_world.specs.{declared.part.Part.Part, Prelude.HasPart}
use Rattle.msg_system.specs.Prelude.{FitsWorld, is_part, job_needs, op_parts, probe_part}
use Rattle.msg_system.specs.{declared.condition.Condition.Condition, declared.condition.Probe.Probe, declared.op.Op.Op}
use Rattle.msg_order.specs.Prelude.{NamesBelow}
use Rattle.msg_json.specs.Prelude.{headed, in_nots, Text}
use Rattle.msg_reading.specs.declared.limits.TheConstants.{MOST_NESTED}
use Rattle.msg_reading.specs.ScenarioFormat as Spec
use Rattle.msg_reading.specs.Prelude.{Declared}
use Rattle.msg_reading.proofs.FitsOfReadings.{either, in_then}

-- ---- parts that are there

-- there are so many names of each kind
pub record HasNames (t r s : ℕ) (names : Declared) : Type 0 where
  pub types : length names.types ≡ t
  pub resources : length names.resources ≡ r
  pub systems : length names.systems ≡ s

-- of so many types and resources
module _ (T R : ℕ) where
  abbrev Has : Part → Type 0
  Has p = HasPart T R p

  -- what an op reads and writes is there
  abbrev pub OpFits : Op ℤ → Type 0
  OpFits op = IfSome (op_parts op).read Has × IfSome (op_parts op).written Has

  -- what a condition asks about is there
  abbrev pub ConditionFits : Condition ℤ → Type 0
  ConditionFits c = Has (probe_part c.probe)

  some_there : {X : Type 0} (part : X → Option Part) (xs : List X) (p : Part) → All (λ x. IfSome (part x) Has) xs
      → list_any (λ x. is_part (part x) p) xs ≡ true → Has p
  some_there part [] p fit h = cc
  some_there part (x ∷ xs) p fit h =
      let here = All-head (λ y. IfSome (part y) Has) x xs fit in
      let later = some_there part xs p (All-tail (λ y. IfSome (part y) Has) x xs fit) in
      grind (arith, eqb-true, here, later)

  -- so a job needs nothing else
  pub job_fits : (ops : List (Op ℤ)) (cs : List (Condition ℤ)) → All OpFits ops → All ConditionFits cs
      → FitsWorld T R (job_needs ops cs)
  job_fits ops cs ops_fit cs_fit p h =
      let read = some_there (λ op. (op_parts op).read) ops p (All-weaker OpFits _ (λ op fits. fits.0) ops ops_fit) in
      let written = some_there (λ op. (op_parts op).written) ops p
      (All-weaker OpFits _ (λ op fits. fits.1) ops ops_fit) in
      grind (arith, read, written, some_there (λ c. Some (probe_part c.probe)) cs p cs_fit)

-- ---- ops and conditions

module _ (T R n : ℕ) (names : Declared) (of : HasNames T R n names) where
  abbrev IsType : ℕ → Type 0
  IsType t = t < T

  abbrev IsResource : ℕ → Type 0
  IsResource r = r < R

  named_type : (name : Text) → IfOk (Spec.type_named names name) IsType
  named_type name = grind (arith, of.types, position-Some (bytes_eq name) names.types)

  named_resource : (name : Text) → IfOk (Spec.resource_named names name) IsResource
  named_resource name = grind (arith, of.resources, position-Some (bytes_eq name) names.resources)

  named_system : (name : Text) → IfOk (Spec.system_named names name) (λ k. k < n)
  named_system name = grind (arith, of.systems, position-Some (bytes_eq name) names.systems)

  type_there : (d : Data) → IfOk (Spec.type_part names d) IsType
  type_there d = grind (arith, named_type)

  resource_there : (d : Data) → IfOk (Spec.resource_part names d) IsResource
  resource_there d = grind (arith, named_resource)

  op_with_one_fits : (head : Text) (d : Data) → IfOk (Spec.op_with_one names head d) (OpFits T R)
  op_with_one_fits head d = grind (arith, type_there d, resource_there d)

  op_with_two_fits : (head : Text) (d e : Data) → IfOk (Spec.op_with_two names head d e) (OpFits T R)
  op_with_two_fits head d e =
      either _ (bytes_eq head (codes "write")) _ _ (grind (arith, named_type)) (
      either _ (bytes_eq head (codes "batch")) _ _ (grind (arith, named_type)) (
      either _ (bytes_eq head (codes "read")) _ _ (grind (arith, named_type)) (
      either _ (bytes_eq head (codes "forward")) _ _ (grind (arith, named_type)) (
      either _ (bytes_eq head (codes "sum")) _ _ (grind (arith, named_type, named_resource))
      (grind (arith, named_resource))))))

  op_with_fits : (head : Text) (ds : List Data) → IfOk (Spec.op_with names head ds) (OpFits T R)
  op_with_fits head [] = grind arith
  op_with_fits head (d ∷ []) = op_with_one_fits head d
  op_with_fits head (d ∷ e ∷ []) = op_with_two_fits head d e
  op_with_fits head (d ∷ e ∷ f ∷ rest) = tt

  pub op_fits : (d : Data) → IfOk (Spec.op_of names d) (OpFits T R)
  op_fits d = grind (arith, op_with_fits)

  -- ---- conditions and posts

  abbrev ProbeFits : Probe ℤ → Type 0
  ProbeFits probe = Has T R (probe_part probe)

  on_message_fits : (nots : ℕ) (d : Data) → IfOk (Spec.on_message names nots d) ProbeFits
  on_message_fits nots d = grind (arith, named_type)

  resource_equals_fits : (nots : ℕ) (d e : Data) → IfOk (Spec.resource_equals names nots d e) ProbeFits
  resource_equals_fits nots d e = grind (arith, named_resource)

  probe_fits : (nots : ℕ) (head : Text) (ds : List Data) → IfOk (Spec.probe_with names nots head ds) ProbeFits
  probe_fits nots head [] = tt
  probe_fits nots head (d ∷ []) = either _ (bytes_eq head (codes "on_message")) _ _ (on_message_fits nots d) tt
  probe_fits nots head (d ∷ e ∷ []) =
      either _ (bytes_eq head (codes "resource_equals")) _ _ (resource_equals_fits nots d e) tt
  probe_fits nots head (d ∷ e ∷ f ∷ rest) = tt

  pub condition_fits : (d : Data) → IfOk (Spec.condition_of names d) (ConditionFits T R)
  condition_fits d =
      let nots = Spec.nots_round MOST_NESTED d in
      let inside = Spec.inside_nots MOST_NESTED d in
      in_then (ConditionFits T R) (Spec.probe_in names nots inside) _ (λ probe is. IfOk-at_ok ProbeFits is
      (in_then ProbeFits (in_nots nots (headed inside)) _ (λ h _. probe_fits nots h.0 h.1)))

  pub post_fits : (d : Data) → IfOk (Spec.post_of names d) (λ p. IsType p.0)
  post_fits d = grind (arith, named_type)

  -- ---- rules

  pub rule_fits : (d : Data) → IfOk (Spec.rule_of names d) (NamesBelow n)
  rule_fits d = grind (arith, named_system)
