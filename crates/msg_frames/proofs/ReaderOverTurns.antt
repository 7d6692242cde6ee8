-- What a reader goes past in the turns of systems, its own and those of others.
use Rattle.std.proofs.Common.{Contains, List, [], ap, arith, cond, filter, flat_map, refl, sym, ℕ, ◌++◌, ◌==◌, ◌∙◌, ◌∷◌, ◌≡◌, ◌≤◌}
use Rattle.std.proofs.lemmas.{Bool.cases_Bool, Bool.Decides.eqb_tells, Grind.flat_map-append, List.map-append, List.Elements.filter-append}
use Rattle.msg_buffer.specs.Prelude.{History, IsSound, count}
use Rattle.msg_system.specs.{Prelude.Step, Prelude.after_job, declared.reply.Reply.Reply}
use Rattle.msg_frames.specs.Prelude.{Member, Moment, State, Totals, Turn, after_turn_of, after_turns_of, member_after, moments_at, reader_place, replies_of, steps_of, turn_of, turns_steps, with_steps}
use Rattle.msg_order.proofs.Elements.{Contains-head, Contains-tail}
use Rattle.msg_frames.proofs.EntriesAddUp.{with_steps-append, with_steps-none}
use Rattle.msg_frames.proofs.HistoriesGrow.{Grows, grown, job_changes, stays}
use Rattle.msg_frames.proofs.ReaderOverJob.{Passes, by_system, job_passes, moments_of, passes_further, passes_nothing}
use Rattle.msg_world.specs.{Prelude.Values, declared.record.Record.Record}

-- By these steps reader (i, t), which had such totals, goes from a place in a history on, up to a state.
pub record ReadsFrom {V : Type 0} {values : Values V} (i t place : ℕ) (had : Totals) (old : History (Record V)) (xs : List (Step values)) (u : State values) : Type 0 where
  pub passes : Passes place old (moments_of t xs) (reader_place u i t) (u.world.histories t)
  pub totals : (u.members i).totals t ≡ with_steps t xs had

module _ {V : Type 0} {values : Values V} where
  -- it does so between two states
  abbrev pub Reads : ℕ → ℕ → State values → List (Step values) → State values → Type 0
  Reads i t s xs u = ReadsFrom i t (reader_place s i t) ((s.members i).totals t) (s.world.histories t) xs u

  pub reads_further : (i t : ℕ) (a : State values) (xs : List (Step values)) (b : State values) (ys : List (Step values)) (c : State values)
      → Reads i t a xs b → Reads i t b ys c → Reads i t a (xs ++ ys) c
  reads_further i t a xs b ys c x y =
      let joins = flat_map-append (moments_at t) xs ys in
      let passes = passes_further _ _ _ _ _ _ _ _ x.passes y.passes in
      record {
        passes = rw joins passes;
        totals = y.totals ∙ ap (with_steps t ys) x.totals ∙ sym (with_steps-append t xs ys ((a.members i).totals t));
      }

  -- a member is as its turn leaves it, or as it was
  pub one_member : (P : Member V → Type 0) (j i : ℕ) (s : State values) → (i ≡ j → P (member_after (turn_of s i) (s.members i)))
      → (¬ (i ≡ j) → P (s.members i)) → P ((after_turn_of j s).members i)
  one_member P j i s here other = grind (arith, eqb_tells)

  -- the steps of system i in the turn of system j
  abbrev pub own_steps : ℕ → ℕ → State values → List (Step values)
  own_steps i j s = cond (j == i) (after_job (s.members j).job s.world).steps []

  -- its steps in the turns of these systems
  abbrev pub turns_own : ℕ → List ℕ → State values → List (Step values)
  turns_own i js s = steps_of i (turns_steps js s)

  -- the moments of reader (i, t) in the turn of system j
  abbrev pub own_moments : ℕ → ℕ → ℕ → State values → List (Moment V)
  own_moments i t j s = cond (j == i) (moments_of t (after_job (s.members j).job s.world).steps) []

  -- its moments in the turns of these systems
  abbrev pub turns_moments : ℕ → ℕ → List ℕ → State values → List (Moment V)
  turns_moments i t js s = moments_of t (steps_of i (turns_steps js s))

  -- of the steps of system j, those of system i are all or none
  of_one : (i j : ℕ) (xs : List (Step values)) → steps_of i (by_system j xs) ≡ cond (j == i) xs []
  of_one i j [] = grind (arith, cases_Bool)
  of_one i j (x ∷ xs) = grind (arith, cases_Bool, of_one i j xs)

  -- the moments of system i among these steps and those
  pub own-append : (i t : ℕ) (xs ys : List (ℕ × Step values))
      → moments_of t (steps_of i (xs ++ ys)) ≡ moments_of t (steps_of i xs) ++ moments_of t (steps_of i ys)
  own-append i t xs ys =
      let own = λ (x : ℕ × Step values). x.0 == i in
      rw (filter-append own xs ys, map-append (λ (x : ℕ × Step values). x.1) (filter own xs) (filter own ys))
      (flat_map-append (moments_at t) (steps_of i xs) (steps_of i ys))

  -- first those of one turn
  own_further : (i j : ℕ) (js : List ℕ) (s : State values) → turns_own i (j ∷ js) s ≡ own_steps i j s ++ turns_own i js (after_turn_of j s)
  own_further i j js s =
      let xs : List (Step values) = (after_job (s.members j).job s.world).steps in
      let own = λ (x : ℕ × Step values). x.0 == i in
      rw (filter-append own (by_system j xs) (turns_steps js (after_turn_of j s)), map-append, ← of_one i j xs) refl

  pub turns_further : (i t j : ℕ) (js : List ℕ) (s : State values)
      → turns_moments i t (j ∷ js) s ≡ own_moments i t j s ++ turns_moments i t js (after_turn_of j s)
  turns_further i t j js s =
      let xs : List (Step values) = (after_job (s.members j).job s.world).steps in
      grind (arith, cases_Bool, own-append i t (by_system j xs) (turns_steps js (after_turn_of j s)), of_one i j xs)

  pub turn_reads : (i t j : ℕ) (s : State values) → IsSound (s.world.histories t)
      → reader_place s i t ≤ count (s.world.histories t) → Reads i t s (own_steps i j s) (after_turn_of j s)
  turn_reads i t j s sound within =
      let own = job_passes t (s.members i).job s.world sound within in
      let none = passes_nothing _ _ _ within (job_changes Grows grown (s.members j).job s.world t sound) in
      grind (arith, eqb_tells, none, own, with_steps-none values)

  pub turns_read : (i t : ℕ) (js : List ℕ) (s : State values) → IsSound (s.world.histories t)
      → reader_place s i t ≤ count (s.world.histories t)
      → Reads i t s (turns_own i js s) (after_turns_of js s).state
  turns_read i t [] s sound within = grind (arith, passes_nothing, stays, with_steps-none values)
  turns_read i t (j ∷ js) s sound within =
      let first = turn_reads i t j s sound within in
      rw (own_further i j js s) (reads_further i t s (own_steps i j s) (after_turn_of j s) _ _ first
      (turns_read i t js (after_turn_of j s) first.passes.goes_on.sound first.passes.within))

-- ---- what the log has of system i among these turns

module _ {V : Type 0} where
  abbrev pub answers_among : ℕ → List (Turn V) → List (List (Reply V))
  answers_among i turns = flat_map (λ turn. cond (turn.system == i) (replies_of turn.outcome) []) turns

module _ {V : Type 0} {values : Values V} where
  -- one whose turn doesn't come
  pub turns_skip : (i : ℕ) (js : List ℕ) (s : State values) → ¬ Contains js i
      → ((after_turns_of js s).state.members i ≡ s.members i) × (turns_own i js s ≡ [])
  turns_skip i [] s out = (refl, refl)
  turns_skip i (j ∷ js) s out =
      let rest = turns_skip i js (after_turn_of j s) (λ at. out (Contains-tail j js i at)) in
      grind (arith, eqb_tells j i, eqb_tells i j, Contains-head j js, rest, own_further i j js s)
