-- The entries that the replies of a turn tell of are those of its steps.
use Rattle.std.proofs.Common.{List, [], ap, arith, flat_map, fold, length, map, refl, ℕ, ◌++◌, ◌∙◌, ◌∷◌, ◌≡◌}
use Rattle.std.specs.List.{sum_by, zip}
use Rattle.std.proofs.lemmas.{Bool.cases_Bool, List.append-nil, List.length-append, List.map-append, List.Sums.sum_by-cons}
use Rattle.msg_world.specs.Prelude.{Values, WorldState}
use Rattle.msg_system.specs.{declared.limits.TheConstants.MAX_OPS, declared.op.Op.Op, declared.reply.Reply.Reply}
use Rattle.msg_system.specs.Prelude.{AfterOp, AfterProgram, Job, Meaning, Step, after_at_most, after_job, after_op, next_op, ops_answered, turn}
use Rattle.msg_system.proofs.{Turns.cut_answers_none, Turns.ops_answered-snoc, TurnsEnd.turn_is_over}
use Rattle.msg_frames.specs.Prelude.{Outcome, ReadEntry, Totals, entries_at, entries_for, entries_of_turns, entry_for, outcome_of, refused_at, refused_for, replies_of, with_answer, with_answers, with_entries, with_refused, with_steps}
use Rattle.msg_frames.proofs.{EntriesAddUp.with_entries-append, HistoriesGrow.by_ops}

-- ---- ops beside their replies

module _ {V : Type 0} where
  zip-append : (ops more : List (Op V)) (rs others : List (Reply V)) → length ops ≡ length rs
      → zip (ops ++ more) (rs ++ others) ≡ zip ops rs ++ zip more others
  zip-append [] more [] others same = refl
  zip-append (o ∷ ops) more (r ∷ rs) others same = ap (λ ps. (o, r) ∷ ps) (zip-append ops more rs others (omega (arith, same)))
  zip-append ops more rs others same = absurd (omega (arith, same))

  -- the entries are those of the pairs
  entries_of_pairs : (t : ℕ) (ops : List (Op V)) (rs : List (Reply V)) → entries_for t ops rs ≡ flat_map (λ p. entry_for t p.0 p.1) (zip ops rs)
  entries_of_pairs t [] rs = refl
  entries_of_pairs t (o ∷ ops) [] = refl
  entries_of_pairs t (o ∷ ops) (r ∷ rs) = ap (λ es. entry_for t o r ++ es) (entries_of_pairs t ops rs)

  -- what answers add to totals is what the pairs tell
  answers_of_pairs : (t : ℕ) (ops : List (Op V)) (rs : List (Reply V)) (x : Totals) → with_answers t ops rs x
      ≡ with_refused (sum_by (λ p. refused_for t p.0 p.1) (zip ops rs)) (with_entries (flat_map (λ p. entry_for t p.0 p.1) (zip ops rs)) x)
  answers_of_pairs t [] rs x = grind arith
  answers_of_pairs t (o ∷ ops) [] x = grind arith
  answers_of_pairs t (o ∷ ops) (r ∷ rs) x =
      let far = answers_of_pairs t ops rs (with_answer t o r x) in
      let rest = flat_map (λ (p : Op V × Reply V). entry_for t p.0 p.1) (zip ops rs) in
      let sums = sum_by-cons (λ (p : Op V × Reply V). refused_for t p.0 p.1) (o, r) (zip ops rs) in
      grind (arith, far, sums, with_entries-append (entry_for t o r) rest x)

module _ {V : Type 0} {values : Values V} where
  -- an op as it was done, beside its reply
  abbrev done_pair : Step values → Op V × Reply V
  done_pair x = (x.op, x.reply)

  entries_of_steps : (t : ℕ) (xs : List (Step values)) → flat_map (λ p. entry_for t p.0 p.1) (map done_pair xs) ≡ entries_at t xs
  entries_of_steps t [] = refl
  entries_of_steps t (x ∷ xs) = ap (λ es. entry_for t x.op x.reply ++ es) (entries_of_steps t xs)

  refused_of_steps : (t : ℕ) (xs : List (Step values)) → sum_by (λ p. refused_for t p.0 p.1) (map done_pair xs) ≡ refused_at t xs
  refused_of_steps t [] = refl
  refused_of_steps t (x ∷ xs) =
      rw (sum_by-cons, sum_by-cons, refused_of_steps t xs) refl

module _ {V : Type 0} {values : Values V} (m : Meaning V) (w : WorldState values) where
  -- so far all ops were answered
  abbrev AnsweredAs : AfterProgram values → Type 0
  AnsweredAs e = (length (ops_answered (next_op m) e.replies) ≡ length e.replies)
      × (zip (ops_answered (next_op m) e.replies) e.replies ≡ map done_pair e.steps)

  answered : (n : ℕ) → AnsweredAs (after_at_most n (next_op m) m.writer m.places w)
  answered = by_ops AnsweredAs m w (refl, refl) (λ op far is so.
      let here : AfterOp values = after_op op m.writer far.places far.world in
      let done : Step values = record { op = op; places = far.places; world = far.world; reply = here.reply } in
      let more = map-append done_pair far.steps (done ∷ []) in
      let pairs = zip-append (ops_answered (next_op m) far.replies) (op ∷ []) far.replies (here.reply ∷ []) so.0 in
      grind (arith, length-append, more, pairs, ops_answered-snoc))

module _ {V : Type 0} where
  -- the entries for a type of a system whose turn came out so
  abbrev pub outcome_entries : ℕ → Meaning V → Outcome V → List (ReadEntry V)
  outcome_entries t m outcome = entries_of_turns t m.needs m.rule (replies_of outcome)

module _ {V : Type 0} where
  -- what they add to the totals for a type
  abbrev pub outcome_told : ℕ → Meaning V → Outcome V → Totals → Totals
  outcome_told t m outcome x = fold (λ y replies. with_answers t (ops_answered (next_op m) replies) replies y) x (replies_of outcome)

module _ {V : Type 0} {values : Values V} where
  -- the ops of a turn beside their replies are its steps
  turn_pairs : (m : Meaning V) (w : WorldState values)
      → zip (ops_answered (next_op m) (turn m w).replies) (turn m w).replies ≡ map done_pair (turn m w).steps
  unfolding turn
  turn_pairs m w =
      let far : AfterProgram values = after_at_most MAX_OPS (next_op m) m.writer m.places w in
      let did = answered m w MAX_OPS in
      -- a turn that is cut tells of no more
      let cut = cut_answers_none (next_op m) (m.rule [] far.replies) far.replies (turn_is_over m w) in
      let none = λ (others : List (Reply V)). zip-append (ops_answered (next_op m) far.replies) [] far.replies others did.0 in
      grind (arith, append-nil, did, cut, none)

  turn_entries : (t : ℕ) (m : Meaning V) (w : WorldState values)
      → entries_for t (ops_answered (next_op m) (turn m w).replies) (turn m w).replies ≡ entries_at t (turn m w).steps
  turn_entries t m w =
      entries_of_pairs t (ops_answered (next_op m) (turn m w).replies) (turn m w).replies
      ∙ ap (flat_map (λ (p : Op V × Reply V). entry_for t p.0 p.1)) (turn_pairs m w)
      ∙ entries_of_steps t (turn m w).steps

  turn_told : (t : ℕ) (m : Meaning V) (w : WorldState values) (x : Totals)
      → with_answers t (ops_answered (next_op m) (turn m w).replies) (turn m w).replies x ≡ with_steps t (turn m w).steps x
  turn_told t m w x =
      answers_of_pairs t (ops_answered (next_op m) (turn m w).replies) (turn m w).replies x
      ∙ rw (turn_pairs m w, entries_of_steps t (turn m w).steps, refused_of_steps t (turn m w).steps) refl

  -- the entries that the outcome of a job tells are those of its steps
  pub job_logged : (t : ℕ) (j : Job V) (w : WorldState values)
      → outcome_entries t j.system (outcome_of (after_job j w).replies) ≡ entries_at t (after_job j w).steps
  job_logged t j w = grind (arith, append-nil, cases_Bool, turn_entries t j.system w)

  -- and so is what it adds to totals
  pub job_told : (t : ℕ) (j : Job V) (w : WorldState values) (x : Totals)
      → outcome_told t j.system (outcome_of (after_job j w).replies) x ≡ with_steps t (after_job j w).steps x
  job_told t j w x = grind (arith, cases_Bool, turn_told t j.system w x)
