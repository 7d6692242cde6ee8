-- What a system's turn leaves: what came of it, its place on the lender, and its totals.
use Rattle.std.proofs.Common.{sym, ap, ◌∙◌, ◌++◌, get_or, ◌≡◌, ◌≢◌, zero, suc, [], None, Option, Some, append-nil, length-append, option_map, option_to_list, ℕ, ◌<◌, ◌≤◌, List, length, refl, arith, slice_get}
use Rattle.std.specs.Global.{Vec}
use Rattle.std.proofs.lemmas.{Option.slice_get_read, Bool.cases_Bool, Bool.eq-eqb, Bool.ne_eqb, List.length_push}
use Rattle.msg_world.specs.Prelude.{SameShape, WorldState, Values}
use Rattle.msg_system.specs.{declared.limits.TheConstants.MAX_OPS, declared.op.Op.Op, declared.reply.Reply.Reply}
use Rattle.msg_system.specs.Prelude.{Job as JobState, Meaning, after_at_most, after_job, next_op, refusal, turn}
use Rattle.msg_frames.specs.{declared.log.Outcome.Outcome, declared.totals.Totals.Totals}
use Rattle.msg_frames.specs.Prelude.{Member, State, member_after, outcome_of, with_member, with_steps}
use Rattle.msg_frames.proofs.EntriesOfSteps.{job_told}
use Rattle.msg_exec.specs.Prelude.{Lender, LenderStands, MemberStands, TotalsStand, capped_totals, system_at, totals_at}
use Rattle.msg_exec.specs.inner.Totals.{HasFewReplies, totals_by}

-- ---- what came of it

module _ {V : Type 0} where
  -- a reply more, if a turn is cut
  cut_at_most : (left : Option (Op V)) (rs : List (Reply V)) → length rs ≤ MAX_OPS
      → length (rs ++ option_to_list (option_map (refusal rs) left)) ≤ suc MAX_OPS
  cut_at_most None rs few = rw append-nil (omega (arith, few))
  cut_at_most (Some op) rs few = rw length_push (omega (arith, few))

module _ {V : Type 0} {values : Values V} where
  -- what its last ops were answered adds what its turn tells
  last_told : (t : ℕ) (j : JobState V) (w : WorldState values) (x : Totals)
      → totals_by t (after_job j w).job.system.last (outcome_of (after_job j w).replies) x
      ≡ with_steps t (after_job j w).steps x
  last_told t j w x = grind (arith, cases_Bool, job_told t j w x)

  at_most_replies : (n : ℕ) (next : List (Reply V) → Option (Op V)) (writer : ℕ) (places : ℕ → ℕ) (w : WorldState values)
      → length (after_at_most n next writer places w).replies ≤ n
  at_most_replies zero next writer places w = omega arith
  at_most_replies (suc n) next writer places w =
      let far = at_most_replies n next writer places w in
      grind (arith, far, length-append)

  pub few_replies : (j : JobState V) (w : WorldState values) → HasFewReplies (outcome_of (after_job j w).replies)
  unfolding turn
  few_replies j w =
      let few = at_most_replies MAX_OPS (next_op j.system) j.system.writer j.system.places w in
      let far = (after_at_most MAX_OPS (next_op j.system) j.system.writer j.system.places w).replies in
      let cut = cut_at_most (j.system.rule [] far) far few in
      grind (arith, cases_Bool, cut)

-- ---- the lender

module _ {V : Type 0} where
  pub its_own : (i : ℕ) (m : Member V) (members : ℕ → Member V) → with_member members i m i ≡ m
  its_own i m members = rw (eq-eqb i i refl)

  pub of_another : (i k : ℕ) (m : Member V) (members : ℕ → Member V) → k ≢ i → with_member members i m k ≡ members k
  of_another i k m members other = rw (ne_eqb k i other)

module _ {S V : Type 0} (meaning : S → Meaning V) where
  -- a member that is kept as it was stands for what it stood for
  pub member_stays : (g h : Lender S V) (types k : ℕ) (m : Member V) → system_at h k ≡ system_at g k → h.accesses.items
      ≡ g.accesses.items
      → slice_get h.totals.items k ≡ slice_get g.totals.items k → SameShape g.world h.world
      → MemberStands meaning g types k m → MemberStands meaning h types k m
  member_stays g h types k m guarded accesses totals shape stands = grind arith

module _ {S V : Type 0} {values : Values V} (meaning : S → Meaning V) where
  -- the totals of a system, as they are read
  pub totals_there : {g : Lender S V} {s : State values} {i : ℕ} {v : Vec Totals} → LenderStands meaning g s
      → v ≡ get_or g.totals.items i v → i < s.systems → TotalsStand s.types v.items (s.members i).totals
  totals_there {g} {s} {i} {v} stands is lt =
      rw (slice_get_read g.totals.items s.systems i v (sym stands.totals) lt is) at (stands.members i lt).totals

-- ---- the totals after a turn

module _ {V : Type 0} {values : Values V} where
  pub totals_after : (types : ℕ) (m : Member V) (w : WorldState values) (old new : List Totals) (ops : List (Op V)) (o : Outcome V)
      → ops ≡ (after_job m.job w).job.system.last → o ≡ outcome_of (after_job m.job w).replies
      → TotalsStand types old m.totals → length new ≡ length old
      → ((t : ℕ) (x : Totals) → t < length old → totals_at old t ≡ capped_totals x → totals_at new t
      ≡ capped_totals (totals_by t ops o x))
      → TotalsStand types new (member_after (after_job m.job w) m).totals
  totals_after types m w old new ops o its came stands as_many entered =
      let same : (t : ℕ) → totals_by t ops o (m.totals t) ≡ with_steps t (after_job m.job w).steps (m.totals t) =
      λ t. rw (its, came) (last_told t m.job w (m.totals t)) in
      record {
        as_many = as_many ∙ stands.as_many;
        each = λ t lt. entered t (m.totals t) (rw stands.as_many lt) (stands.each t lt)
            ∙ ap capped_totals (same t);
      }
