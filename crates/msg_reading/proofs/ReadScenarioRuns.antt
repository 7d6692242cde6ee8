-- A scenario that was read can be run, if no program clashes and its rules make no cycle.
use Rattle.std.proofs.Common.{◌≡◌, ℕ, ℤ, ◌+◌, ◌≤◌, ◌<◌, List, length, refl, Option, Some, Ok, arith, All, IfOk, IsTrue, option_and_then}
use Rattle.std.proofs.lemmas.{Grind.common_steps, Result.IfOk-at_ok}
use Rattle.serde_json.specs.{Data.Data}
use Rattle.msg_system.specs.Prelude.{FitsWorld, job_needs}
use Rattle.msg_system.specs.{declared.condition.Condition.Condition, declared.op.Op.Op}
use Rattle.msg_order.specs.Prelude.{IsAcyclic, NameSystemsBelow, NamesBelow, edges_of}
use Rattle.msg_frames.specs.declared.frame.Frame.{Frame}
use Rattle.msg_json.specs.declared.location.TheConstants.{SCENARIO_KEYS}
use Rattle.msg_json.specs.Prelude.{Reading, at_key, in_key, known_keys, only_below, Text}
use Rattle.msg_json.specs.declared.location.Key.TheVariants as key
use Rattle.msg_json.specs.declared.location.PathStep.TheVariants as step
use Rattle.msg_reading.specs.{Prelude.IsRunnable, Prelude.fits_kind, declared.kind.Kind.Kind, declared.scenario.Scenario.Scenario, declared.scenario.SystemSpec.SystemSpec}
use Rattle.msg_frames.specs.declared.limits.TheConstants.{LAST_JOIN}
use Rattle.msg_system.specs.declared.limits.TheConstants.{MAX_OPS}
use Rattle.msg_world.specs.declared.limits.TheConstants.{MAX_RESOURCES, MAX_SYSTEMS, MAX_TYPES}
use Rattle.msg_reading.specs.declared.limits.TheConstants.{MAX_CONDITIONS, MAX_FRAMES, MAX_POSTS, MAX_RULES}
use Rattle.msg_reading.specs.ScenarioFormat as Spec
use Rattle.msg_reading.specs.Prelude.{Declared, NoneClash, frames_of, held_of, resources_of, rules_of, scenario_of, systems_of, types_of}
use Rattle.msg_reading.proofs.FitsOfReadings.{in_then, list_fits, of_part}
use Rattle.msg_reading.proofs.WhatIsUsedIsThere.{ConditionFits, HasNames, OpFits, condition_fits, job_fits, op_fits, post_fits, rule_fits}

-- ---- types and resources

abbrev OneMore : {A : Type 0} → (ℕ → Declared → Type 0) → ℕ → A × Declared → Type 0
OneMore Inv k x = Unit {0} × Inv (k + 1) x.1

type_fits : (names : Declared) (k : ℕ) (d : Data) → HasNames k 0 0 names
    → IfOk (Spec.type_at names k d) (OneMore (λ n. HasNames n 0 0) k)
type_fits names k d has = grind (arith, common_steps, has)

resource_fits : (t : ℕ) (names : Declared) (k : ℕ) (d : Data) → HasNames t k 0 names
    → IfOk (Spec.resource_at names k d) (OneMore (λ n. HasNames t n 0) k)
resource_fits t names k d has = grind (arith, common_steps, has)

-- ---- systems

-- a system can be made, and added to an engine over so many types and resources, if it doesn't clash
pub record SystemFits (t r : ℕ) (x : SystemSpec) : Type 0 where
  pub few_ops : length x.program.ops ≤ MAX_OPS
  pub fit_kind : IsTrue (fits_kind x.kind x.program.ops)
  pub fits : FitsWorld t r (job_needs x.program.ops x.place.conditions)
  pub joins : (1 ≤ x.place.join) × (x.place.join ≤ LAST_JOIN)

-- elements that declare no name leave the names as they were
kept : {A : Type 0} (P : A → Type 0) (Inv : Declared → Type 0) (names : Declared) (r : Reading A) → Inv names → IfOk r P
    → IfOk (Spec.keeping names r) (λ x. P x.0 × Inv x.1)
kept P Inv names r inv h = grind arith

module _ (t r n : ℕ) where
  abbrev Known : Declared → Type 0
  Known = HasNames t r n

  abbrev OpsFit : Kind → List (Op ℤ) × Declared → Type 0
  OpsFit kind x = All (OpFits t r) x.0 × (length x.0 ≤ MAX_OPS) × Known x.1 × IsTrue (fits_kind kind x.0)

  ops_fit : (names : Declared) (kind : Kind) (d : Data) → Known names → IfOk (Spec.ops_of names kind d) (OpsFit kind)
  ops_fit names kind d known =
      let all = list_fits Spec.op_at (OpFits t r) (λ k. Known) (λ m k e h. grind (arith, op_fits t r n m h e)) MAX_OPS names d known in
      grind (arith, all)

  abbrev ConditionsFit : List (Condition ℤ) × Declared → Type 0
  ConditionsFit x = All (ConditionFits t r) x.0 × (length x.0 ≤ MAX_CONDITIONS) × Known x.1

  conditions_fit : (names : Declared) (d : Data) → Known names → IfOk (Spec.conditions_of names d) ConditionsFit
  conditions_fit names d known =
      list_fits Spec.condition_at (ConditionFits t r) (λ k. Known) (λ m k e h. grind (arith, condition_fits t r n m h e))
      MAX_CONDITIONS names (Spec.value_or key.If Spec.nothing d) known

  abbrev IsJoinFrame : ℕ → Type 0
  IsJoinFrame j = (1 ≤ j) × (j ≤ LAST_JOIN)

  from_one_to : (o : Option ℕ) (j : ℕ) → option_and_then Spec.from_one (option_and_then (only_below (LAST_JOIN + 1)) o) ≡ Some j
      → IsJoinFrame j
  from_one_to o j h = grind arith

  join_fits : (d : Data) → IfOk (Spec.join_of d) IsJoinFrame
  join_fits d = grind (arith, from_one_to)

  abbrev SystemRead : SystemSpec × Declared → Type 0
  SystemRead x = SystemFits t r x.0 × Known x.1

  program_fits : (names : Declared) (name : Text) (ops d : Data) → Known names
      → IfOk (Spec.program_of names name ops d) SystemRead
  program_fits names name ops d known =
      in_then SystemRead (in_key key.Kind (Spec.kind_of d)) _ (λ kind _.
      of_part (OpsFit kind) SystemRead (step.Key key.Ops) (Spec.ops_of names kind ops) _ (ops_fit names kind ops known) (λ os op.
      of_part ConditionsFit SystemRead (step.Key key.If) (Spec.conditions_of os.1 d) _ (conditions_fit os.1 d op.2) (λ cs condition.
      of_part IsJoinFrame SystemRead (step.Key key.Join) (Spec.join_of d) _ (join_fits d) (λ j join.
      in_then SystemRead (in_key key.Start (Spec.start_of d)) _ (λ st _. (
        record {
          few_ops = op.1;
          fit_kind = op.3;
          fits = job_fits t r os.0 cs.0 op.0 condition.0;
          joins = join;
        },
        condition.2,
      ))))))

system_fits : (t r : ℕ) (names : Declared) (n : ℕ) (d : Data) → HasNames t r n names
    → IfOk (Spec.system_at names n d) (SystemRead t r (n + 1))
system_fits t r names n d has =
    grind (arith, common_steps, has, program_fits t r (n + 1))

-- ---- rules and frames

rules_fit : (t r n : ℕ) (names : Declared) (d : Data) → HasNames t r n names
    → IfOk (Spec.each_of MAX_RULES Spec.rule_at names d)
    (λ x. All (NamesBelow n) x.0 × (length x.0 ≤ MAX_RULES) × HasNames t r n x.1)
rules_fit t r n names d has = list_fits Spec.rule_at (NamesBelow n) (λ k. HasNames t r n)
    (λ m k e h. grind (arith, rule_fits t r n m h e)) MAX_RULES names d has

abbrev FrameFits : ℕ → Frame ℤ → Type 0
FrameFits t frame = All (λ p. p.0 < t) frame.posts

module _ (t r n : ℕ) where
  abbrev FrameRead : Frame ℤ × Declared → Type 0
  FrameRead x = FrameFits t x.0 × HasNames t r n x.1

  pub posts_fit : (names : Declared) (d : Data) → HasNames t r n names → IfOk (Spec.frame_of names d) FrameRead
  posts_fit names d has =
      let all = list_fits Spec.post_at (λ p. p.0 < t) (λ k. HasNames t r n) (λ m k e h. grind (arith, post_fits t r n m h e))
      MAX_POSTS names d has in
      grind (arith, all)

  frames_fit : (names : Declared) (d : Data) → HasNames t r n names
      → IfOk (Spec.each_of MAX_FRAMES Spec.frame_at names d)
      (λ x. All (FrameFits t) x.0 × (length x.0 ≤ MAX_FRAMES) × HasNames t r n x.1)
  frames_fit names d has = list_fits Spec.frame_at (FrameFits t) (λ k. HasNames t r n)
      (λ m k e h. grind (arith, posts_fit m e h)) MAX_FRAMES names d has

-- ---- the whole

-- what holds of a scenario that was read: it can be run, if no program clashes and the rules make no cycle
pub record IsWhole (s : Scenario) : Type 0 where
  pub few_systems : length s.systems ≤ MAX_SYSTEMS
  pub rules_in_range : NameSystemsBelow (length s.systems) s.rules
  pub runnable : NoneClash s.systems → IsAcyclic (edges_of s.rules)
      → IsRunnable s

in_turn_whole : (types systems frames d : Data) → IfOk (Spec.in_turn types systems frames d) IsWhole
unfolding types_of resources_of held_of systems_of rules_of frames_of
in_turn_whole types systems frames d =
    let resources_in = Spec.value_or key.Resources Spec.nothing d in
    let rules_in = Spec.value_or key.Rules Spec.nothing d in
    of_part _ IsWhole (step.Section key.Types) (Spec.each_of MAX_TYPES Spec.type_at Spec.no_names types) _
    (list_fits Spec.type_at (λ _. Unit {0}) (λ k. HasNames k 0 0) type_fits MAX_TYPES Spec.no_names types
    (record { types = refl; resources = refl; systems = refl })) (λ ts type.
    let t = length ts.0 in
    of_part _ IsWhole (step.Section key.Resources) (Spec.each_of MAX_RESOURCES Spec.resource_at ts.1 resources_in) _
    (list_fits Spec.resource_at (λ _. Unit {0}) (λ k. HasNames t k 0) (resource_fits t) MAX_RESOURCES ts.1 resources_in type.2)
    (λ rs resource.
    let r = length rs.0 in
    in_then IsWhole (held_of d) _ (λ held _.
    of_part _ IsWhole (step.Section key.Systems) (Spec.each_of MAX_SYSTEMS Spec.system_at rs.1 systems) _
    (list_fits Spec.system_at (SystemFits t r) (λ k. HasNames t r k) (λ m k e h. system_fits t r m k e h) MAX_SYSTEMS rs.1 systems
    resource.2) (λ ss system.
    let n = length ss.0 in
    of_part _ IsWhole (step.Section key.Rules) (Spec.each_of MAX_RULES Spec.rule_at ss.1 rules_in) _
    (rules_fit t r n ss.1 rules_in system.2) (λ us rule.
    of_part _ IsWhole (step.Section key.Frames) (Spec.each_of MAX_FRAMES Spec.frame_at us.1 frames) _
    (frames_fit t r n us.1 frames rule.2) (λ fs frame.
    record {
      few_systems = system.1;
      rules_in_range = rule.0;
      runnable = λ none acyclic. record {
        few_types = type.1;
        few_resources = resource.1;
        few_systems = system.1;
        systems = λ k x lt. let fit = system.0 k x lt in record {
          few_ops = fit.few_ops;
          fit_kind = fit.fit_kind;
          fits = fit.fits;
          no_clash = none k x lt;
          joins = fit.joins;
        };
        rules_in_range = rule.0;
        acyclic = acyclic;
        posts = frame.0;
      };
    }))))))

pub whole_of : (d : Data) (s : Scenario) → scenario_of d ≡ Ok s → IsWhole s
whole_of d s is = IfOk-at_ok IsWhole is (in_then IsWhole (known_keys SCENARIO_KEYS.now d) _ (λ _ _.
    in_then IsWhole (at_key key.Types d) _ (λ types _. in_then IsWhole (at_key key.Systems d) _ (λ systems _.
    in_then IsWhole (at_key key.Frames d) _ (λ frames _. in_turn_whole types systems frames d)))))
