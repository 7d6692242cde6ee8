-- Ops, turns, conditions and jobs use no more than they need.
use Rattle.std.proofs.Common.{◌≡◌, ℕ, zero, suc, ◌++◌, Bool, false, List, [], ◌∷◌, length, slice_get, map, Option, None, Some, refl, ap, ◌∙◌, arith, IfSome, IsTrue, nat_lt}
use Rattle.std.proofs.{Math.Bool.or-false, Math.Path.fun_ext, lemmas.Bool.cases_Bool, lemmas.Bool.false≢true, lemmas.Bool.or_left, lemmas.Bool.or_right, lemmas.List.take_all}
use Rattle.msg_buffer.specs.Prelude.{History, count, unread}
use Rattle.msg_world.specs.{declared.part.Part.Part, declared.part.Part.TheVariants.OfResource, declared.part.Part.TheVariants.OfType, declared.part.Part.TheVariants.Registry, Prelude.WorldState, Prelude.content, Prelude.Values}
use Rattle.msg_world.specs.declared.record.Record.{Record}
use Rattle.msg_system.specs.declared.limits.TheConstants.{MAX_OPS}
use Rattle.msg_system.specs.Prelude.{AfterProgram, Agree, Asked, ConditionFootprint, HasFootprint, IsWithin, Job, JobFootprint, Needs, OnMessage, Op, OpFootprint, Probe, ProgramFootprint, Reply, ResourceEquals, TurnFootprint, after_asking, after_at_most, after_op, after_program, all_hold, cut_after, conditions_of, probe_answer, given_by_program, is_part, needs_any, next_op, one_more, op_needs, op_parts, place_after, probe_part, program_needs, some_condition_reads, turn, with_conditions}
use Rattle.msg_system.proofs.{Runs.same_part_refl, Turns.IsKept, Turns.kept, Turns.next_kept_to, Turns.op_kept as op_kept_in, Turns.so_far}

-- ---- what is kept

op_kept : {V : Type 0} {values : Values V} (op : Op V) (w : ℕ) (ps : ℕ → ℕ) (s : WorldState values) (p : Part) → (op_needs op).writes p ≡ false
    → content p (after_op op w ps s).world ≡ content p s
op_kept op w ps s (OfType t) h = grind arith
op_kept op w ps s (OfResource r) h = grind arith
op_kept op w ps s Registry h = grind arith

-- ---- what is given, and what is left

module _ {V : Type 0} {values : Values V} (m : Part → Bool) (s t : WorldState values) (agree : Agree m s t) where
  module _ (op : Op V) (w : ℕ) (ps : ℕ → ℕ) (within : IsWithin (op_needs op) m) where
    part_agrees : (o : Option Part) → ((p : Part) → IsTrue (is_part o p) → IsTrue (needs_any (op_needs op) p))
        → IfSome o (λ p. content p s ≡ content p t)
    part_agrees None used = tt
    part_agrees (Some p) used = agree p (within p (used p (same_part_refl p)))

    agrees : IfSome (op_parts op).read (λ p. content p s ≡ content p t)
        × IfSome (op_parts op).written (λ p. content p s ≡ content p t)
    agrees = (part_agrees (op_parts op).read (λ p. or_left _ _), part_agrees (op_parts op).written (λ p. or_right _ _))

    op_alike : Agree m (after_op op w ps s).world (after_op op w ps t).world
    op_alike (OfType u) h = grind (arith, agrees, agree (OfType u) h)
    op_alike (OfResource r) h = grind (arith, agrees, agree (OfResource r) h)
    op_alike Registry h = grind (arith, agree Registry h)

pub op_footprint : {V : Type 0} {values : Values V} → OpFootprint values
op_footprint op w ps = record {
  kept = op_kept op w ps;
  same = λ m s t within agree. grind (arith, agrees m s t agree op w ps within);
  alike = λ m s t within agree. op_alike m s t agree op w ps within;
}

-- ---- turns

-- ops that keep to what is needed
module _ {V : Type 0} (values : Values V) (n : Needs) (next : List (Reply V) → Option (Op V)) (w : ℕ) (ps : ℕ → ℕ)
    (keeps : (rs : List (Reply V)) (op : Op V) → next rs ≡ Some op → IsKept n op) where
  -- the first of them
  abbrev after : ℕ → WorldState values → AfterProgram values
  after k s = after_at_most k next w ps s

  more_kept : (o : Option (Op V)) (far : AfterProgram values) (p : Part) → ((op : Op V) → o ≡ Some op → IsKept n op)
      → n.writes p ≡ false → content p (one_more o w far).world ≡ content p far.world
  more_kept None far p kept h = refl
  more_kept (Some op) far p kept h =
      op_kept op w far.places far.world p (grind (arith, kept op refl, cases_Bool, false≢true))

  more_alike : (among : Part → Bool) → IsWithin n among → (o : Option (Op V)) (a b : AfterProgram values) → ((op : Op V) → o ≡ Some op → IsKept n op)
      → given_by_program a ≡ given_by_program b → Agree among a.world b.world
      → (given_by_program (one_more o w a) ≡ given_by_program (one_more o w b)) × Agree among (one_more o w a).world (one_more o w b).world
  more_alike among within None a b kept same agree = (same, agree)
  more_alike among within (Some op) a b kept same agree =
      let foot = op_footprint op w a.places in
      let in_m : IsWithin (op_needs op) among = λ p h. within p (grind (arith, kept op refl)) in (
        grind (arith, same, foot.same among a.world b.world in_m agree),
        λ p h. grind (arith, same, foot.alike among a.world b.world in_m agree p h),
      )

  first_ops : (k : ℕ) → HasFootprint n (λ (e : AfterProgram values). e.world) given_by_program (after k)
  first_ops zero = record { kept = λ s p h. refl; same = λ m s t within agree. refl; alike = λ m s t within agree. agree }
  first_ops (suc k) =
      let far = first_ops k in
      let from = λ (g : (ℕ → ℕ) × List (Reply V)). next g.1 in
      let more : (m : Part → Bool) (s t : WorldState values) → IsWithin n m → Agree m s t
      → (given_by_program (after (suc k) s) ≡ given_by_program (after (suc k) t)) × Agree m (after (suc k) s).world (after (suc k) t).world =
      λ m s t within agree.
      let same = far.same m s t within agree in
      rw (← ap from same)
      (more_alike m within (next (after k s).replies) (after k s) (after k t) (keeps (after k s).replies) same (far.alike m s t within agree)) in
      record {
        kept = λ s p h. more_kept (next (after k s).replies) (after k s) p (keeps (after k s).replies) h ∙ far.kept s p h;
        same = λ m s t within agree. (more m s t within agree).0;
        alike = λ m s t within agree. (more m s t within agree).1;
      }

pub turn_footprint : {V : Type 0} {values : Values V} → TurnFootprint values
unfolding turn
turn_footprint {V} {values} m =
    let far = first_ops values m.needs (next_op m) m.writer m.places (next_kept_to m.needs (m.rule [])) MAX_OPS in
    let told : (ℕ → ℕ) × List (Reply V) → (ℕ → ℕ) × List (Reply V) = λ g. (g.0, g.1 ++ cut_after (m.rule []) g.1) in
    record {
      kept = far.kept;
      same = λ among s t within agree. ap told (far.same among s t within agree);
      alike = far.alike;
    }

pub program_footprint : {V : Type 0} {values : Values V} → ProgramFootprint values
program_footprint {V} {values} ops w ps =
    let all = λ (s : WorldState values). so_far ops (length ops) w ps s ∙ ap (λ xs. after_program xs w ps s) (take_all (length ops) ops (omega arith)) in
    rw (← fun_ext all)
    (first_ops values (program_needs ops) (λ replies. slice_get ops (length replies)) w ps (λ rs op is. kept _ op (op_kept_in ops (length rs) op is))
    (length ops))

-- ---- conditions

probe_alike : {V : Type 0} {values : Values V} (q : Probe V) (place : ℕ) (s t : WorldState values) → content (probe_part q) s ≡ content (probe_part q) t
    → (probe_answer q place s ≡ probe_answer q place t) × (place_after q place s ≡ place_after q place t)
probe_alike {V} {values} (OnMessage k) place s t e =
    (ap (λ (h : History (Record V)). nat_lt 0 (length (unread h place))) e, ap (λ (h : History (Record V)). count h) e)
probe_alike {V} {values} (ResourceEquals r v) place s t e = (ap (λ x. values.same x v) e, refl)

pub condition_footprint : {V : Type 0} {values : Values V} → ConditionFootprint values
condition_footprint a m s t within agree =
    let p : Part = probe_part a.condition.probe in
    let alike = probe_alike a.condition.probe a.place s t (agree p (within p (or_left _ false (same_part_refl p)))) in
    (rw alike.0 refl, rw alike.1 refl)

all_alike : {V : Type 0} {values : Values V} (asked : List (Asked V)) (m : Part → Bool) (s t : WorldState values)
    → ((p : Part) → IsTrue (some_condition_reads (map (λ a. a.condition) asked) p) → IsTrue (m p)) → Agree m s t
    → (all_hold asked s ≡ all_hold asked t) × (map (after_asking s) asked ≡ map (after_asking t) asked)
all_alike [] m s t within agree = (refl, refl)
all_alike (a ∷ asked) m s t within agree =
    let here = condition_footprint a m s t (λ p h. within p (grind (arith, or_left, or-false))) agree in
    let rest = all_alike asked m s t (λ p h. within p (or_right _ _ h)) agree in
    (rw (here.0, rest.0) refl, rw (here.1, rest.1) refl)

-- ---- jobs

-- what a system and its conditions use, their job uses
module _ {V : Type 0} (j : Job V) (m : Part → Bool) (within : IsWithin (with_conditions j.system.needs (conditions_of j)) m) where
  system_in : IsWithin j.system.needs m
  system_in p h = within p (grind (arith, or_right, false≢true))

  conditions_in : (p : Part) → IsTrue (some_condition_reads (conditions_of j) p) → IsTrue (m p)
  conditions_in p h = within p (grind (arith, or_right))

pub job_footprint : {V : Type 0} {values : Values V} → JobFootprint values
job_footprint j = record {
  kept = λ s p h. grind (arith, (turn_footprint j.system).kept s p h);
  same = λ m s t within agree.
      let all = all_alike j.conditions m s t (conditions_in j m within) agree in
      grind (arith, all, (turn_footprint j.system).same m s t (system_in j m within) agree);
  alike = λ m s t within agree p h.
      let all = all_alike j.conditions m s t (conditions_in j m within) agree in
      grind (arith, all, agree p h, (turn_footprint j.system).alike m s t (system_in j m within) agree p h);
}
