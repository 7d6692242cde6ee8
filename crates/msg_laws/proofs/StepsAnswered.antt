-- The steps of a run have the replies of its logs.
use Rattle.msg_frames.proofs.{HistoriesGrow.by_ops, ReaderOverJob.by_system}
use Rattle.msg_frames.specs.{Frames.turn_order, declared.frame.Frame.Frame, declared.log.Turn.Turn}
use Rattle.msg_frames.specs.Prelude.{State, after_posts, after_turn_of, after_turns_of, before_turns, frame, outcome_of, post_replies, post_steps, replies_of, turns_steps}
use Rattle.msg_laws.specs.Prelude.{AreAnswered, done_in}
use Rattle.msg_system.proofs.WholeTurns.{op_is_done}
use Rattle.msg_system.specs.{Prelude.AfterProgram, Prelude.Job, Prelude.Meaning, Prelude.Step, Prelude.after_at_most, Prelude.after_job, Prelude.next_op, Prelude.refusal, Prelude.turn, declared.limits.TheConstants.MAX_OPS, declared.op.Op.Op, declared.reply.Reply.Reply}
use Rattle.msg_world.specs.{Prelude.Values, Prelude.WorldState, Prelude.after_update, declared.record.TheConstants.HOST}
use Rattle.std.proofs.Common.{List, None, Option, Some, [], append_assoc, arith, flat_map, length, map, nat_lt, option_map, option_to_list, refl, ℕ, ◌++◌, ◌∷◌, ◌≡◌}
use Rattle.std.proofs.lemmas.{Bool.cases_Bool, List.Elements.filter-append, List.append-nil, List.map-append}

module _ {V : Type 0} where
  abbrev answers_by : ℕ → List (Reply V) → List (ℕ × Reply V)
  answers_by i rs = map (λ r. (i, r)) rs

  abbrev told_in : Turn V → List (ℕ × Reply V)
  told_in turn = flat_map (λ replies. answers_by turn.system (done_in replies)) (replies_of turn.outcome)

  -- of replies to ops that were done a cut leaves all
  cut_is_not_done : (left : Option (Op V)) (rs : List (Reply V)) → done_in rs ≡ rs
      → done_in (rs ++ option_to_list (option_map (refusal rs) left)) ≡ rs
  cut_is_not_done None rs all = rw (filter-append, all, append-nil) refl
  cut_is_not_done (Some op) rs all =
      grind (arith, all, append-nil, cases_Bool (nat_lt (length rs) MAX_OPS), filter-append)

module _ {V : Type 0} {values : Values V} where
  abbrev answer_to : ℕ × Step values → ℕ × Reply V
  answer_to x = (x.0, x.1.reply)

  -- each step has its reply, and all replies are to ops that were done
  abbrev Answers : ℕ → AfterProgram values → Type 0
  Answers i far = (map answer_to (by_system i far.steps) ≡ answers_by i far.replies)
      × (done_in far.replies ≡ far.replies)

  first_answered : (i n : ℕ) (m : Meaning V) (w : WorldState values)
      → Answers i (after_at_most n (next_op m) m.writer m.places w)
  first_answered i n m w = by_ops (Answers i) m w (refl, refl) (λ op far is so.
      (grind (arith, map-append, so.0), rw (filter-append, so.1, op_is_done op m.writer far.places far.world) refl)) n

  job_answered : (i : ℕ) (j : Job V) (w : WorldState values) → map answer_to (by_system i (after_job j w).steps)
      ≡ told_in (record { system = i; outcome = outcome_of (after_job j w).replies })
  unfolding turn
  job_answered i j w =
      let m = j.system in
      let all = first_answered i MAX_OPS m w in
      let cut = cut_is_not_done (m.rule [] (after_at_most MAX_OPS (next_op m) m.writer m.places w).replies) _ all.1 in
      grind (arith, all, append-nil, cases_Bool, cut)

  turns_answered : (is : List ℕ) (s : State values) → map answer_to (turns_steps is s)
      ≡ flat_map told_in (after_turns_of is s).turns
  turns_answered [] s = refl
  turns_answered (i ∷ is) s =
      grind (arith, map-append, job_answered i (s.members i).job s.world, turns_answered is (after_turn_of i s))

  posts_answered : (posts : List (ℕ × V)) (w : WorldState values) → map answer_to (post_steps posts w)
      ≡ answers_by HOST (post_replies posts w)
  posts_answered [] w = refl
  posts_answered (p ∷ ps) w = grind (arith, posts_answered ps (after_posts (p ∷ []) w))

  pub run_answered : (frames : List (Frame V)) (s : State values) → AreAnswered frames s
  run_answered [] s = refl
  run_answered (f ∷ fs) s =
      let b : State values = before_turns f.posts s in
      let posts = posts_answered f.posts (after_update s.world) in
      grind (arith, map-append, append_assoc, posts, turns_answered (turn_order b) b, run_answered fs (frame f s).state)
