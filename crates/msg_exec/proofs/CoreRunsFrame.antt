-- A frame begins, takes its turns, and leaves a core that stands for the state after it.
use Rattle.std.proofs.Common.{◌≡◌, ℕ, suc, ◌<◌, Bool, false, List, map, max, ap, ◌∙◌, arith, All, IsTrue, ◌↔◌, nat_le, refl}
use Rattle.std.specs.List.{concat}
use Rattle.std.proofs.lemmas.{Bool.cases_Bool, Bool.Decides.nat_tests, List.FromFn.fill_by_all, List.FromFn.get_or-map-range_with_len, List.FromFn.length-map-range_with_len, List.get_or-map, List.length-map}
use Rattle.msg_order.specs.{Prelude.IsLawfulOrder, Prelude.NoneConflict, Prelude.PlanView, Prelude.plan_of, Prelude.settled, declared.rule.Rule.Rule}
use Rattle.msg_system.specs.declared.reply.Reply.{Reply}
use Rattle.msg_system.specs.Prelude.{Meaning}
use Rattle.msg_exec.specs.Prelude.{AreJoins, Core, CoreStands, Lender, LenderStands, FixedParts}
use Rattle.msg_frames.specs.{declared.frame.Frame.Frame}
use Rattle.msg_exec.specs.{inner.FrameSteps.begun, inner.FrameSteps.HasLeft, inner.FrameSteps.HasOpened, inner.FrameSteps.NobodyJoins, inner.SystemsOut.HaveReadNothing, inner.FrameSteps.PlansNext}
use Rattle.msg_frames.specs.Prelude.{IsLawfulFor, IsSoundState, SameSystems, State, are_in_conflict, before_turns, frame, join_flags}
use Rattle.msg_frames.specs.Frames.{settled_order, turn_order}
use Rattle.msg_frames.proofs.StatesStaySound.{frame_sound}
use Rattle.msg_frames.proofs.Functions.{batches_apart, plan_is}
use Rattle.msg_frames.proofs.SystemsStay.{accesses_stay, before_keeps, joined_is, joined_stay, joining_keeps, no_cycle_stays, turns_keep_systems, turns_make_no_frame, uses_stay}
use Rattle.msg_world.specs.Prelude.{Values}

-- ---- what no frame changes

module _ {V : Type 0} {values : Values V} where
  -- the fixed parts of a core is that of a later core and state with the same joins, rules and systems
  pub fixed_along : {S : Type 0} {c d : Core S V} {s u : State values} → d.joins ≡ c.joins → d.rules ≡ c.rules
      → SameSystems s u → FixedParts c s → FixedParts d u
  fixed_along joins rules same has = grind (arith, joins, rules, has, same)

-- ---- who has joined

module _ {V : Type 0} {values : Values V} where
  -- the flags of the systems that have joined, computed from the frames that they join with
  pub joined_by_frame : (js : List ℕ) (s : State values) (frame : ℕ) → AreJoins js s → max 1 s.frames ≡ frame
      → map (λ j. nat_le j frame) js ≡ join_flags s
  joined_by_frame js s frame are is =
      fill_by_all (λ i. nat_le (s.members i).join (max 1 s.frames)) (map (λ j. nat_le j frame) js) s.systems false
      (length-map js (λ j. nat_le j frame) ∙ are.as_many) (λ k lt. grind (arith, are.each k lt, get_or-map))

  -- if none joins with the next frame, the same have joined by it
  pub nobody_more : (s : State values) → NobodyJoins s → join_flags (begun s) ≡ join_flags s
  nobody_more s none =
      let counted : State values = record s { frames = suc s.frames } in
      joined_stay counted (begun s) (grind (arith, joining_keeps)) refl
      ∙ fill_by_all (λ i. nat_le (s.members i).join (max 1 s.frames)) (join_flags counted) s.systems false
      (length-map-range_with_len _ 0 s.systems) (λ k lt.
      get_or-map-range_with_len _ 0 s.systems k k false lt (omega arith)
      ∙ grind (arith, nat_tests, none k lt))

-- ---- the frame begins

module _ {V : Type 0} {values : Values V} where
  -- those that are about to join were given nothing
  pub about_to_join : (s : State values) → IsSoundState s → 0 < s.frames → HaveReadNothing (suc s.frames) s
  about_to_join s sound some i t joins = grind (arith, cases_Bool, nat_tests, joined_is s i, sound.waiting i t)

-- ---- the frame opens, and its turns are taken

module _ {S V : Type 0} {values : Values V} (meaning : S → Meaning V) where
  module _ {b : Core S V} {s : State values} {f : Frame V} {replies : List (Reply V)}
      (has : HasOpened meaning f s b replies) where
    planned : IsSoundState s → b.plan ≡ plan_of (settled_order (before_turns f.posts s)) (join_flags (before_turns f.posts s))
    planned sound =
        let bt : State values = before_turns f.posts s in
        plan_is bt b.lender.accesses.items b.plan (uses_stay s bt (before_keeps f.posts s) sound.uses)
        (grind (arith, has.lender)) has.plan

    -- batch by batch, those that have joined take their turns in the settled order
    pub in_turn : IsSoundState s → concat b.plan.batches ≡ turn_order (before_turns f.posts s)
    unfolding turn_order
    in_turn sound = ap (λ p. concat p.batches) (planned sound)

    pub in_batch_apart : IsSoundState s → All (NoneConflict b.lender.accesses.items) b.plan.batches
    in_batch_apart sound =
        let bt : State values = before_turns f.posts s in
        let keeps = before_keeps f.posts s in
        rw (planned sound) (batches_apart bt b.lender.accesses.items (uses_stay s bt keeps sound.uses)
        (grind (arith, has.lender)) (no_cycle_stays s bt keeps sound.no_cycle))

    pub frame_ran : {new : Lender S V} {Told : Type 0} → IsSoundState s → LenderStands meaning new (frame f s).state → Told
        → new.accesses.items ≡ b.lender.accesses.items → HasLeft meaning Told f s (record b { lender = new })
    frame_ran sound lender told accesses =
        let bt : State values = before_turns f.posts s in
        let order : List ℕ = turn_order bt in
        let same = turns_keep_systems order bt in
        record {
          holds = told;
          stands = record {
            lender = lender;
            fixed = fixed_along refl refl same has.fixed;
            plan = rw (accesses, same.rules, joined_stay bt _ same (turns_make_no_frame order bt)) has.plan;
            sound = frame_sound f s sound;
          };
          frames = turns_make_no_frame order bt;
        }

  -- ---- which orders are lawful

  -- an order is lawful for a frame just if the plan of those that will have joined accepts it
  pub accepted : {accepts : Bool} {c : Core S V} {s : State values} {plan : PlanView} (f : Frame V) (order : List ℕ)
      → CoreStands meaning c s → PlansNext c s plan
      → ((rules : List Rule) (joined : List Bool) (conflict : ℕ → ℕ → Bool)
      → plan ≡ plan_of (settled conflict rules joined) joined
      → IsTrue accepts ↔ IsLawfulOrder (settled conflict rules joined) joined order)
      → IsTrue accepts ↔ IsLawfulFor f s order
  unfolding settled_order
  accepted {c = c} {s} {plan} f order stands is tells =
      let b : State values = before_turns f.posts s in
      let keeps = before_keeps f.posts s in
      let told = tells b.rules (join_flags b) (are_in_conflict b) (plan_is b c.lender.accesses.items plan
      (uses_stay s b keeps stands.sound.uses)
      (accesses_stay s b c.lender.accesses.items keeps (grind (arith, stands.lender))) (rw keeps.rules is)) in
      (λ yes. record { lawful = told.0 yes }, λ x. told.1 x.lawful)
