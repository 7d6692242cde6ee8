-- Turns of systems whose accesses don't conflict can be swapped.
use Rattle.std.proofs.Common.{IsTrue, List, Option, ap, arith, false, ne_eqb, sym, ℕ, ◌<◌, ◌∙◌, ◌≡◌, ◌≢◌}
use Rattle.std.proofs.lemmas.{Bool.and_from, Bool.cases_Bool, Bool.Decides.eqb_tells}
use Rattle.msg_world.specs.{Prelude.Conflict, Prelude.Values, Prelude.WorldState, Prelude.content, declared.access.Access.Access, declared.part.Part.Part, declared.part.Part.TheVariants.OfResource, declared.part.Part.TheVariants.OfType, declared.part.Part.TheVariants.Registry}
use Rattle.msg_system.specs.{Prelude.AfterJob, Prelude.HasFootprint, Prelude.IsAccessOf, Prelude.Job, Prelude.JobFootprint, Prelude.Needs, Prelude.after_job, Prelude.needs_any, declared.reply.Reply.Reply}
use Rattle.msg_frames.proofs.EntriesOfSteps.{job_told, outcome_told}
use Rattle.msg_system.proofs.AccessesUseNeeds.{uses_needs}
use Rattle.msg_frames.specs.Prelude.{AreAccessesOf, Member, Outcome, State, Totals, after_turn_of, logged_turn, member_after, member_needs, outcome_of, turn_of, with_steps}
use Rattle.msg_order.specs.Prelude.{access_of}

module _ {V : Type 0} {values : Values V} where
  -- worlds with the same parts are the same
  pub same_world : (v w : WorldState values) → ((p : Part) → content p v ≡ content p w) → v ≡ w
  same_world v w e = λ k. record {
    histories = λ t. e (OfType t) k;
    resources = λ r. e (OfResource r) k;
    marks = e Registry k;
  }

-- neither writes what the other needs
pub record Apart (m n : Needs) : Type 0 where
  pub left : (p : Part) → IsTrue (needs_any n p) → m.writes p ≡ false
  pub right : (p : Part) → IsTrue (needs_any m p) → n.writes p ≡ false

pub apart : (m n : Needs) (a b : Access) → IsAccessOf m a → IsAccessOf n b → ¬ Conflict a b → Apart m n
apart m n a b ma nb none = grind (arith, and_from, cases_Bool, uses_needs)

module _ {V : Type 0} {values : Values V} where
  -- what a turn gives beside the world
  abbrev pub given_by_turn : Member V → AfterJob values → Member V × Outcome V
  given_by_turn m e = (member_after e m, outcome_of e.replies)

  -- turns that are answered alike add the same to totals
  same_totals : (j : Job V) (v w : WorldState values) (t : ℕ) (x : Totals) → (after_job j v).replies ≡ (after_job j w).replies
      → with_steps t (after_job j v).steps x ≡ with_steps t (after_job j w).steps x
  same_totals j v w t x same =
      sym (job_told t j v x) ∙ ap (λ (r : Option (List (Reply V))). outcome_told t j.system (outcome_of r) x) same
      ∙ job_told t j w x

  pub turn_footprint : JobFootprint values → (m : Member V)
      → HasFootprint (member_needs m) (λ (e : AfterJob values). e.world) (given_by_turn m) (after_job m.job)
  turn_footprint foot m = record {
    kept = (foot m.job).kept;
    same = λ parts v w within agree.
        let given = (foot m.job).same parts v w within agree in
        λ k. (
          record m {
            job = (given k).0;
            totals = λ t. same_totals m.job v w t (m.totals t) (λ i. (given i).1) k;
          },
          outcome_of (given k).1,
        );
    alike = (foot m.job).alike;
  }

  -- two turns, neither of which writes what the other needs
  worlds_commute : JobFootprint values → (m n : Member V) (w : WorldState values) → Apart (member_needs m) (member_needs n)
      → (after_job n.job (after_job m.job w).world).world ≡ (after_job m.job (after_job n.job w).world).world
  worlds_commute foot m n w free =
      let f = turn_footprint foot m in
      let g = turn_footprint foot n in
      let v : WorldState values = (after_job m.job w).world in
      let u : WorldState values = (after_job n.job w).world in
      same_world _ _ (λ p.
      let by_f = f.alike (needs_any (member_needs m)) u w (λ q used. used) (λ q used. g.kept w q (free.right q used)) p in
      let by_g = g.alike (needs_any (member_needs n)) v w (λ q used. used) (λ q used. f.kept w q (free.left q used)) p in
      grind (arith, by_f, by_g, cases_Bool, f.kept w p, f.kept u p, free.left p, free.right p, g.kept w p, g.kept v p))

  -- the turn of a system after that of another from which it is apart is its turn before it
  pub turn_after : JobFootprint values → (s : State values) (i j : ℕ) → j ≢ i
      → Apart (member_needs (s.members i)) (member_needs (s.members j))
      → given_by_turn ((after_turn_of i s).members j) (turn_of (after_turn_of i s) j)
      ≡ given_by_turn (s.members j) (turn_of s j)
  turn_after foot s i j ne free =
      rw (ne_eqb j i ne)
      ((turn_footprint foot (s.members j)).same (needs_any (member_needs (s.members j))) (turn_of s i).world s.world
      (λ p u. u) (λ p u. (turn_footprint foot (s.members i)).kept s.world p (free.left p u)))

  turns_swap : JobFootprint values → (s : State values) (i j : ℕ) → i ≢ j
      → Apart (member_needs (s.members i)) (member_needs (s.members j))
      → after_turn_of j (after_turn_of i s) ≡ after_turn_of i (after_turn_of j s)
  turns_swap foot s i j ne free =
      let first = turn_after foot s i j (λ h. ne (sym h)) free in
      let second = turn_after foot s j i ne (grind arith) in
      let worlds = worlds_commute foot (s.members i) (s.members j) s.world free in
      grind (arith, eqb_tells, first, second, worlds)

  pub turns_commute : JobFootprint values → (s : State values) (accesses : List Access) (i j : ℕ) → AreAccessesOf s accesses
      → i < s.systems → j < s.systems → i ≢ j → ¬ Conflict (access_of accesses i) (access_of accesses j)
      → (logged_turn (after_turn_of i s) j ≡ logged_turn s j) × (logged_turn (after_turn_of j s) i ≡ logged_turn s i)
      × (after_turn_of j (after_turn_of i s) ≡ after_turn_of i (after_turn_of j s))
  turns_commute foot s accesses i j are li lj ne none =
      let free = apart _ _ _ _ (are.of_needs i li) (are.of_needs j lj) none in
      let first = turn_after foot s i j (λ e. ne (sym e)) free in
      let second = turn_after foot s j i ne (grind arith) in
      grind (arith, first, second, turns_swap foot s i j ne free)
