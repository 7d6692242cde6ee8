-- Whatever a run does, each type's history goes on.
use Rattle.std.proofs.Common.{List, None, Option, Some, [], append-nil, append_assoc, arith, length-append, map, refl, suc, zero, ℕ, ◌∷◌, ◌≡◌, ◌≤◌}
use Rattle.std.proofs.lemmas.{Bool.cases_Bool, Bool.Decides.eqb_tells}
use Rattle.msg_buffer.specs.Prelude.{GoesOn, History, IsSound, clear, count, write}
use Rattle.msg_buffer.proofs.Growth.{only_grows}
use Rattle.msg_world.specs.{Prelude.Values, Prelude.WorldState, Prelude.after_update, Prelude.by, Prelude.with_history, declared.record.Record.Record}
use Rattle.msg_system.specs.{Prelude.AfterProgram, Prelude.Job, Prelude.Meaning, Prelude.after_at_most, Prelude.after_job, Prelude.after_op, Prelude.again_by, Prelude.next_op, Prelude.one_more, Prelude.took, Prelude.turn, declared.limits.TheConstants.MAX_OPS, declared.op.Op.Op}
use Rattle.msg_system.specs.declared.op.Op.TheVariants.{Batch, Drain, Forward, Write}
use Rattle.msg_frames.specs.Prelude.{Frame, State, after_posts, after_turn_of, after_turns_of, before_turns, frame, frame_in}

module _ {V : Type 0} where
  pub stays : (h : History (Record V)) → IsSound h → GoesOn h h
  stays h sound = grind (arith, append-nil h.entries)

  pub goes_further : (a b c : History (Record V)) → GoesOn a b → GoesOn b c → GoesOn a c
  goes_further a b c x y = grind (arith, append_assoc)

  pub counts_more : (a b : History (Record V)) → GoesOn a b → count a ≤ count b
  counts_more a b x = grind (arith, length-append)

-- What holds of a turn before its first op, and of one op more, holds of so many ops.
module _ {V : Type 0} {values : Values V} (P : AfterProgram values → Type 0) (m : Meaning V) (w : WorldState values)
    (first : P (after_at_most 0 (next_op m) m.writer m.places w))
    (more : (op : Op V) (far : AfterProgram values) → next_op m far.replies ≡ Some op → P far → P (one_more (Some op) m.writer far))
  where
    one_op : (o : Option (Op V)) (far : AfterProgram values) → next_op m far.replies ≡ o → P far → P (one_more o m.writer far)
    one_op None far is so = so
    one_op (Some op) far is so = more op far is so

    pub by_ops : (n : ℕ) → P (after_at_most n (next_op m) m.writer m.places w)
    by_ops zero = first
    by_ops (suc n) = one_op _ (after_at_most n (next_op m) m.writer m.places w) refl (by_ops n)

-- ---- what changes keep

-- What a change may do to a history: a write and a drain do it, and one after the other.
pub record IsKept {V : Type 0} (R : History (Record V) → History (Record V) → Type 0) : Type 0 where
  pub same : (h : History (Record V)) → R h h
  pub further : (a b c : History (Record V)) → R a b → R b c → R a c
  pub written : (h : History (Record V)) (ms : List (Record V)) → R h (write ms h)
  pub drained : (h : History (Record V)) → R h (clear h)

module _ {V : Type 0} {values : Values V} where
  -- of each type
  abbrev pub InEach : (History (Record V) → History (Record V) → Type 0) → WorldState values → WorldState values → Type 0
  InEach R w v = (t : ℕ) → R (w.histories t) (v.histories t)

module _ {V : Type 0} {values : Values V} (R : History (Record V) → History (Record V) → Type 0) (kept : IsKept R) where
  one_changes : (w : WorldState values) (u : ℕ) (h : History (Record V)) → R (w.histories u) h → InEach R w (with_history w u h)
  one_changes w u h r t = grind (arith, eqb_tells, kept.same (w.histories t))

  pub op_changes : (op : Op V) (writer : ℕ) (places : ℕ → ℕ) (w : WorldState values)
      → InEach R w (after_op op writer places w).world
  op_changes (Write t v) writer places w = one_changes w t _ (kept.written _ (by writer v ∷ []))
  op_changes (Batch t vs) writer places w = one_changes w t _ (kept.written _ (map (by writer) vs))
  op_changes (Forward t u) writer places w =
      one_changes w u _ (kept.written _ (again_by writer (took (w.histories t) (places t) None).items))
  op_changes (Drain t) writer places w = one_changes w t _ (kept.drained (w.histories t))
  op_changes op writer places w = λ t. kept.same _

  pub job_changes : (j : Job V) (w : WorldState values) → InEach R w (after_job j w).world
  unfolding turn
  job_changes j w t =
      let ops = by_ops (λ (far : AfterProgram values). R (w.histories t) (far.world.histories t)) j.system w (kept.same _)
      (λ op far is so. kept.further _ _ _ so (op_changes op j.system.writer far.places far.world t)) MAX_OPS in
      grind (arith, cases_Bool, kept.same (w.histories t), ops)

  pub turns_change : (order : List ℕ) (s : State values) → InEach R s.world (after_turns_of order s).state.world
  turns_change [] s t = kept.same _
  turns_change (i ∷ is) s t =
      kept.further _ _ _ (job_changes (s.members i).job s.world t) (turns_change is (after_turn_of i s) t)

  pub posts_change : (posts : List (ℕ × V)) (w : WorldState values) → InEach R w (after_posts posts w)
  posts_change [] w t = kept.same _
  posts_change (p ∷ ps) w t =
      let next = with_history w p.0 (write (by _ p.1 ∷ []) (w.histories p.0)) in
      kept.further _ _ _ (one_changes w p.0 _ (kept.written _ (by _ p.1 ∷ [])) t) (posts_change ps next t)

-- ---- sound histories go on

module _ {V : Type 0} where
  abbrev pub Grows : History (Record V) → History (Record V) → Type 0
  Grows a b = IsSound a → GoesOn a b

  pub grown : IsKept Grows
  grown = record {
    same = stays;
    further = λ a b c x y sound. goes_further a b c (x sound) (y (x sound).sound);
    written = λ h ms sound. (only_grows h sound).0 ms;
    drained = λ h sound. (only_grows h sound).2;
  }

module _ {V : Type 0} {values : Values V} where
  -- each sound history of the first world goes on in the second
  abbrev pub WorldGoesOn : WorldState values → WorldState values → Type 0
  WorldGoesOn w v = InEach Grows w v

  pub before_goes_on : (posts : List (ℕ × V)) (s : State values) → WorldGoesOn s.world (before_turns posts s).world
  before_goes_on posts s t sound =
      let posted = posts_change Grows grown posts (after_update s.world) t in
      grind (arith, cases_Bool, stays, only_grows (s.world.histories t) sound, posted, goes_further)

  pub frame_goes_on : (order : List ℕ) (frame : Frame V) (s : State values)
      → WorldGoesOn s.world (frame_in order frame s).state.world
  frame_goes_on order frame s t =
      let turns = turns_change Grows grown order (before_turns frame.posts s) in
      grown.further _ _ _ (before_goes_on frame.posts s t) (turns t)
