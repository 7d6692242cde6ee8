-- Turns that nothing cuts.
use Rattle.std.proofs.Common.{All, ◌≡◌, false, ℕ, zero, suc, ◌<◌, ◌≤◌, ◌++◌, IsTrue, List, [], ◌∷◌, length, map, Option, Some, None, refl, subst, sym, ap, ◌∙◌, arith, inl, inr}
use Rattle.std.proofs.lemmas.{Bool.cases_Bool, Bool.cases_lt, List.append-nil, List.length_push, List.Elements.All-pop, Option.slice_get_past}
use Rattle.msg_world.specs.Prelude.{Values, WorldState}
use Rattle.msg_system.specs.Prelude.{AfterProgram, IsWholeTurn, KeepsWithinBounds, Meaning, Op, Program, Reply, Step, TurnsAreWhole, TurnsWithinBounds, after_at_most, after_op, after_program, cut_after, is_cut, keeps_to, next_op, of_program, one_more, turn}
use Rattle.msg_system.specs.declared.{limits.TheConstants.MAX_OPS}
use Rattle.msg_system.proofs.{Deciding.stays, Turns.done_of, Turns.in_order, Turns.kept_done, Turns.op_kept, TurnsEnd.over_or_full, TurnsEnd.turn_is_over}

module _ {V : Type 0} {values : Values V} (m : Meaning V) (s : WorldState values) where
  -- so many ops of its rule, whatever it needs
  abbrev rules : ℕ → AfterProgram values
  rules n = after_at_most n (m.rule []) m.writer m.places s

  -- so many of its turn
  abbrev turns : ℕ → AfterProgram values
  turns n = after_at_most n (next_op m) m.writer m.places s

  abbrev IsKeptStep : Step values → Type 0
  IsKeptStep step = IsTrue (keeps_to m.needs step.op)

  -- there is a reply for each step, and there are at most as many as were asked for
  abbrev AreSteps : ℕ → AfterProgram values → Type 0
  AreSteps n far = (length far.replies ≡ length far.steps) × (length far.steps ≤ n)

  one_step : (o : Option (Op V)) (n : ℕ) (far : AfterProgram values) → AreSteps n far → AreSteps (suc n) (one_more o m.writer far)
  one_step None n far are = (are.0, omega (arith, are.1))
  one_step (Some op) n far are = (rw (length_push, length_push, are.0) refl, rw length_push (omega (arith, are.1)))

  are_steps : (n : ℕ) → AreSteps n (rules n)
  are_steps zero = (refl, omega arith)
  are_steps (suc n) = one_step (m.rule [] (rules n).replies) n (rules n) (are_steps n)

  -- if one op more is within bounds, so are those before it, and it is done
  before_one : (o : Option (Op V)) (far : AfterProgram values) → length far.replies ≡ length far.steps
      → length (one_more o m.writer far).steps ≤ MAX_OPS → All IsKeptStep (one_more o m.writer far).steps
      → (length far.steps ≤ MAX_OPS) × All IsKeptStep far.steps × (done_of m.needs (length far.replies) o ≡ o)
  before_one None far same few all = (few, all, refl)
  before_one (Some op) far same few all =
      let both = All-pop IsKeptStep _ far.steps (Some _) refl all in
      let less : length far.replies < MAX_OPS = omega (arith, rw length_push at few, same) in
      (omega (arith, less, same), both.0, kept_done m.needs _ (Some op) less (λ x is. grind (arith, both.1, is)))

  -- the turn goes as far as the rule if all steps are within bounds
  as_far : (n : ℕ) → length (rules n).steps ≤ MAX_OPS → All IsKeptStep (rules n).steps → turns n ≡ rules n
  as_far zero few all = refl
  as_far (suc n) few all =
      let before = before_one (m.rule [] (rules n).replies) (rules n) (are_steps n).0 few all in
      rw (as_far n before.0 before.1, before.2) refl

  -- and if the rule keeps within them
  as_far_kept : KeepsWithinBounds m → (n : ℕ) → n ≤ MAX_OPS → turns n ≡ rules n
  as_far_kept bounds zero few = refl
  as_far_kept bounds (suc n) few =
      let done = kept_done m.needs (length (rules n).replies) (m.rule [] (rules n).replies) (omega (arith, are_steps n, few)) (bounds.kept _) in
      rw (as_far_kept bounds n (omega (arith, few)), done) refl

  -- nothing is told if the rule has ended
  pub ends_itself : (far : AfterProgram values) → m.rule [] far.replies ≡ None
      → record far { replies = far.replies ++ cut_after (m.rule []) far.replies } ≡ far
  ends_itself far ended = rw (ended, append-nil) refl

-- a turn goes as far as the ops do
pub told_alike : {V : Type 0} {values : Values V} (rule : List (Reply V) → Option (Op V)) (a b : AfterProgram values) → a ≡ b
    → record a { replies = a.replies ++ cut_after rule a.replies } ≡ record b { replies = b.replies ++ cut_after rule b.replies }
told_alike {values = values} rule a b same =
    ap (λ (e : AfterProgram values). record e { replies = e.replies ++ cut_after rule e.replies }) same

pub within_bounds : {V : Type 0} {values : Values V} → TurnsWithinBounds values
unfolding turn
within_bounds m s done uncut few kept =
    let n : ℕ = uncut.asked in
    let ended = rw uncut.far at uncut.ended in
    let same = as_far m s n (rw uncut.far at few) (rw uncut.far at kept) in
    let over : next_op m (turns m s n).replies ≡ None = rw (same, ended) refl in
    let all : turns m s MAX_OPS ≡ turns m s n =
    elim (cases_lt n MAX_OPS) [
      | inl lt ↦ stays (next_op m) m.writer m.places s MAX_OPS n (omega (arith, lt)) over
      | inr le ↦ sym (stays (next_op m) m.writer m.places s n MAX_OPS le (turn_is_over m s))
    ] in
    told_alike (m.rule []) _ _ (all ∙ same) ∙ ends_itself m s (rules m s n) ended ∙ sym uncut.far

pub are_whole : {V : Type 0} {values : Values V} → TurnsAreWhole values
unfolding turn
are_whole {V} m s bounds =
    let ended : m.rule [] (rules m s MAX_OPS).replies ≡ None =
    elim (over_or_full (m.rule []) m.writer m.places s MAX_OPS) [ inl none ↦ none | inr full ↦ bounds.ends _ full ] in
    let is = told_alike (m.rule []) _ _ (as_far_kept m s bounds MAX_OPS (omega arith)) ∙ ends_itself m s (rules m s MAX_OPS) ended in
    record {
      asked = MAX_OPS;
      far = is;
      ended = subst (λ (e : AfterProgram _). m.rule [] e.replies ≡ None) (sym is) ended;
    }

-- ---- replies to ops that were done

-- an op that is done doesn't cut its turn
pub op_is_done : {V : Type 0} {values : Values V} (op : Op V) (w : ℕ) (ps : ℕ → ℕ) (s : WorldState values) → is_cut (after_op op w ps s).reply ≡ false
op_is_done op w ps s = grind (arith, cases_Bool)

-- ---- programs

same_ops : {V : Type 0} {values : Values V} (ops : List (Op V)) (w : ℕ) (ps : ℕ → ℕ) (s : WorldState values)
    → map (λ (step : Step values). step.op) (after_program ops w ps s).steps ≡ ops
same_ops [] w ps s = refl
same_ops (op ∷ ops) w ps s = ap (λ xs. op ∷ xs) (same_ops ops w _ (after_op op w ps s).world)

pub program_is_whole : {V : Type 0} {values : Values V} (program : Program V) (w : ℕ) (ps : ℕ → ℕ) (s : WorldState values)
    → length program.ops ≤ MAX_OPS → IsWholeTurn (of_program program w ps) s
program_is_whole program w ps s few = record {
  uncut = are_whole (of_program program w ps) s (record {
    kept = λ replies op is. op_kept program.ops (length replies) op is;
    ends = λ replies all. slice_get_past program.ops (length replies) (omega (arith, all, few));
  });
  all = rw (in_order program w ps s few).0 (same_ops program.ops w ps s);
}
