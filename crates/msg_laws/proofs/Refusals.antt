-- What was refused is past the limit later too.
use Rattle.std.proofs.Common.{All, IfSome, List, None, Option, Some, [], arith, if◌then◌else◌, inl, inr, map, refl, suc, ℕ, ◌+◌, ◌<◌, ◌==◌, ◌∙◌, ◌∷◌, ◌≡◌, ◌≤◌}
use Rattle.std.specs.Option.{option_map_or}
use Rattle.std.proofs.lemmas.{Bool.cases_Bool, Bool.cases_lt, Bool.Decides.eqb_tells, List.length-append, List.length-map, List.Sums.sum_by-cons}
use Rattle.std.proofs.lemmas.List.Elements.{All-append, All-cons, All-filter, All-map, All-nil, All-push}
use Rattle.msg_buffer.specs.Prelude.{History, count}
use Rattle.msg_world.specs.{Prelude.Values, Prelude.WorldState, Prelude.after_update, declared.record.Record.Record, declared.record.TheConstants.HOST}
use Rattle.msg_system.specs.{Prelude.AfterOp, Prelude.AfterProgram, Prelude.Job, Prelude.Meaning, Prelude.Step, Prelude.after_job, Prelude.after_op, Prelude.refused_by, Prelude.turn, declared.limits.TheConstants.MAX_OPS, declared.op.Op.Op, declared.reply.Refused.Refused}
use Rattle.msg_system.specs.declared.op.Op.TheVariants.{Batch, Forward, Write}
use Rattle.msg_frames.specs.{Frames.turn_order, declared.frame.Frame.Frame}
use Rattle.msg_frames.specs.Prelude.{State, after_posts, after_turn_of, after_turns_of, before_turns, frame, own_steps_in, post_steps, refused_at, refused_for, run, steps_of, turns_steps}
use Rattle.msg_frames.proofs.HistoriesGrow.{InEach, IsKept, by_ops, op_changes, posts_change, turns_change}
use Rattle.msg_laws.specs.Prelude.{IsPastLimit, OpsAreRefusedPastLimits, SystemsAreRefusedPastLimits}

-- ---- counts only grow

-- as many messages or more, within the same limit
record Counts {V : Type 0} (old new : History (Record V)) : Type 0 where
  limit : new.limit ≡ old.limit
  more : count old ≤ count new

counted : {V : Type 0} → IsKept {V = V} Counts
counted = record {
  same = λ h. record { limit = refl; more = omega arith };
  further = λ a b c x y. record { limit = y.limit ∙ x.limit; more = omega (arith, x.more, y.more) };
  written = λ h ms. grind (arith, cases_Bool, length-append);
  drained = λ h. record { limit = refl; more = omega arith };
}

module _ {V : Type 0} {values : Values V} where
  updated : (w : WorldState values) → InEach Counts w (after_update w)
  updated w t = grind (arith, cases_Bool)

  frame_counts : (f : Frame V) (s : State values) → InEach Counts s.world (frame f s).state.world
  frame_counts f s t =
      let b : State values = before_turns f.posts s in
      let begun = counted.further _ _ _ (updated s.world t) (posts_change Counts counted f.posts (after_update s.world) t) in
      counted.further _ _ _ begun (turns_change Counts counted (turn_order b) b t)

  run_counts : (frames : List (Frame V)) (s : State values) → InEach Counts s.world (run frames s).state.world
  run_counts [] s t = counted.same _
  run_counts (f ∷ fs) s t = counted.further _ _ _ (frame_counts f s t) (run_counts fs (frame f s).state t)

-- ---- what is refused

module _ {V : Type 0} {values : Values V} where
  abbrev RefusedPast : WorldState values → Option Refused → Type 0
  RefusedPast w o = IfSome o (λ r. IsPastLimit w r.of_type r.n)

  -- what the step was refused is past the limit
  abbrev IsPast : WorldState values → Step values → Type 0
  IsPast w x = RefusedPast w (refused_by x.op x.reply)

  abbrev IsPastOf : WorldState values → ℕ × Step values → Type 0
  IsPastOf w x = IsPast w x.1

  later : (w v : WorldState values) → InEach Counts w v → (o : Option Refused) → RefusedPast w o → RefusedPast v o
  later w v counts None past = past
  later w v counts (Some r) past = omega (arith, (counts r.of_type).limit, (counts r.of_type).more, past)

  all_later : (w v : WorldState values) → InEach Counts w v → (xs : List (ℕ × Step values)) → All (IsPastOf w) xs → All (IsPastOf v) xs
  all_later w v counts xs past k d lt = later w v counts _ (past k d lt)

  op_past : (op : Op V) (i : ℕ) (ps : ℕ → ℕ) (w : WorldState values) → RefusedPast w (refused_by op (after_op op i ps w).reply)
  op_past (Write t v) i ps w = grind (arith, cases_Bool)
  op_past (Batch t vs) i ps w = grind (arith, cases_Bool, length-map)
  op_past (Forward a t) i ps w = grind (arith, cases_Bool, length-map)
  op_past op i ps w = tt

  job_past : (j : Job V) (w : WorldState values) → All (IsPast (after_job j w).world) (after_job j w).steps
  unfolding turn
  job_past j w =
      let m : Meaning V = j.system in
      let ops = by_ops (λ (far : AfterProgram values). All (IsPast far.world) far.steps) m w (All-nil (IsPast w))
      (λ op far next so.
      let here : AfterOp values = after_op op m.writer far.places far.world in
      let goes = op_changes Counts counted op m.writer far.places far.world in
      All-push (IsPast here.world) far.steps _ (λ k d lt. later far.world here.world goes _ (so k d lt))
      (later far.world here.world goes _ (op_past op m.writer far.places far.world))) MAX_OPS in
      grind (arith, cases_Bool, All-nil, ops)

  turns_past : (is : List ℕ) (s : State values) → All (IsPastOf (after_turns_of is s).state.world) (turns_steps is s)
  turns_past [] s = All-nil (IsPastOf s.world)
  turns_past (i ∷ is) s =
      let next : State values = after_turn_of i s in
      let last : WorldState values = (after_turns_of is next).state.world in
      let own : List (Step values) = (after_job (s.members i).job s.world).steps in
      let here = All-map (IsPastOf next.world) (λ (x : Step values). (i, x)) own (job_past (s.members i).job s.world) in
      All-append (IsPastOf last) (map (λ (x : Step values). (i, x)) own) (turns_steps is next)
      (all_later next.world last (turns_change Counts counted is next) _ here) (turns_past is next)

  posts_past : (posts : List (ℕ × V)) (w : WorldState values) → All (IsPastOf (after_posts posts w)) (post_steps posts w)
  posts_past [] w = All-nil (IsPastOf w)
  posts_past (p ∷ ps) w =
      let last : WorldState values = after_posts (p ∷ ps) w in
      let here = later w last (posts_change Counts counted (p ∷ ps) w) _ (op_past (Write p.0 p.1) HOST (λ t. 0) w) in
      All-cons (IsPastOf last) _ (post_steps ps (after_posts (p ∷ []) w)) here (posts_past ps (after_posts (p ∷ []) w))

  pub run_past : OpsAreRefusedPastLimits values
  run_past [] s = All-nil (IsPastOf s.world)
  run_past (f ∷ fs) s =
      let b : State values = before_turns f.posts s in
      let mid : State values = (frame f s).state in
      let last : WorldState values = (run fs mid).state.world in
      let posts = all_later b.world mid.world (turns_change Counts counted (turn_order b) b) _ (posts_past f.posts (after_update s.world)) in
      let both = All-append (IsPastOf mid.world) _ _ posts (turns_past (turn_order b) b) in
      All-append (IsPastOf last) _ _ (all_later mid.world last (run_counts fs mid) _ both) (run_past fs mid)

  -- ---- of one system

  own_past : (i : ℕ) (frames : List (Frame V)) (s : State values) → All (IsPast (run frames s).state.world) (own_steps_in i frames s)
  own_past i [] s = All-nil (IsPast s.world)
  own_past i (f ∷ fs) s =
      let b : State values = before_turns f.posts s in
      let mid : State values = (frame f s).state in
      let last : WorldState values = (run fs mid).state.world in
      let all = all_later mid.world last (run_counts fs mid) _ (turns_past (turn_order b) b) in
      let own = All-map (IsPast last) (λ (x : ℕ × Step values). x.1) _ (All-filter (λ x. x.0 == i) (IsPastOf last) _ all) in
      All-append (IsPast last) (steps_of i (turns_steps (turn_order b) b)) (own_steps_in i fs mid) own (own_past i fs mid)

  one_past : (w : WorldState values) (t : ℕ) (o : Option Refused) → RefusedPast w o →
      let n : ℕ = option_map_or (λ (r : Refused). if r.of_type == t then r.n else 0) o 0 in 0 < n → IsPastLimit w t n
  one_past w t None past some = absurd (omega (arith, some))
  one_past w t (Some r) past some = grind (arith, cases_Bool, eqb_tells, past, some)

  all_past : (w : WorldState values) (t : ℕ) (xs : List (Step values)) → All (IsPast w) xs → 0 < refused_at t xs → IsPastLimit w t (refused_at t xs)
  all_past w t [] past some = absurd (omega (arith, some))
  all_past w t (x ∷ xs) past some =
      let rest : ℕ = refused_at t xs in
      let adds : refused_at t (x ∷ xs) ≡ refused_for t x.op x.reply + rest = sum_by-cons (λ (y : Step values). refused_for t y.op y.reply) x xs in
      elim (cases_lt 0 (refused_for t x.op x.reply)) [
        | inl here ↦ omega (arith, adds, one_past w t _ (past 0 x (omega arith)) here)
        | inr none ↦ omega (arith, adds, all_past w t xs (λ k d lt. past (suc k) d (omega (arith, lt))) (omega (arith, adds, some, none)))
      ]

  pub system_past : SystemsAreRefusedPastLimits values
  system_past frames s i t some = all_past (run frames s).state.world t (own_steps_in i frames s) (own_past i frames s) some
