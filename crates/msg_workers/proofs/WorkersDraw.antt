-- What workers draw from the board, and that a worker passed the gate for each job, with its own number.
use Rattle.std.proofs.Common.{◌≡◌, ℕ, suc, ◌+◌, ◌<◌, ◌≤◌, ◌==◌, inl, inr, List, [], ◌∷◌, ◌++◌, length, min, Some, arith, All, Contains, slice_get}
use Rattle.std.proofs.lemmas.{Bool.cases_Bool, Bool.eqb-true, List.length-append, List.Elements.All-append, List.Elements.All-cons, List.Elements.Contains-append_cases, List.Elements.Contains-push_cases, Option.slice_get_within}
use Rattle.msg_board.specs.Prelude.{BoardView, HasEnded, HoldsEachOnce, PassState, drawn_by, jobs_of, times}
use Rattle.msg_workers.specs.Work.{EachNewIs, EachPassedGate, PassedGate}
use Rattle.msg_workers.specs.inner.Workers.{HaveWorked}

-- ---- one job more is drawn

module _ {J : Type 0} (Such : J → Type 0) (jobs : List J) where
  -- one more is drawn, and its job is such
  pub one_more : (old new : List ℕ) (k : ℕ) (job : J) → EachNewIs Such jobs old new → slice_get jobs k ≡ Some job
      → Such job → EachNewIs Such jobs old (new ++ k ∷ [])
  one_more old new k job each there such n m = elim (Contains-push_cases new k n m) [
    | inl x ↦ each n x
    | inr x ↦ inr (λ other is. grind (arith, there, x, is, such))
  ]

  -- what is so of those drawn first, and of those drawn then, is so of all
  pub and_then : (old mid new : List ℕ) → EachNewIs Such jobs old mid → EachNewIs Such jobs mid new
      → EachNewIs Such jobs old new
  and_then old mid new one other n m = elim (other n m) [ inl x ↦ one n x | inr x ↦ inr x ]

-- ---- who drew a number

found : (k : ℕ) (ns : List ℕ) → 0 < times k ns → Contains ns k
found k [] some = absurd (omega (arith, some))
found k (n ∷ ns) some = elim (cases_Bool (n == k)) [
  | inl same ↦ (0, omega arith, eqb-true n k same)
  | inr other ↦ let rest = found k ns (rw other at some) in (suc rest.0, omega (arith, rest.1), rest.2)
]

module _ {J : Type 0} (b : BoardView J) (Such : ℕ → J → Type 0) where
  -- the job of a number that was drawn is such for one of the workers
  by_some : (first : ℕ) (ps : List (PassState J)) (k : ℕ) (job : J) → HaveWorked b Such first ps → Contains (drawn_by ps) k
      → slice_get (jobs_of b) k ≡ Some job → (worker : ℕ) × (worker < first + length ps) × Such worker job
  by_some first [] k job have h at = absurd (omega (arith, h.1))
  by_some first (p ∷ ps) k job have h at = elim (Contains-append_cases p.drawn (drawn_by ps) k h) [
    | inl own ↦ elim (have.0.each k own) [
      | inl old ↦ absurd (omega (arith, old.1))
      | inr new ↦ (first, omega arith, new job at)
    ]
    | inr other ↦ let (n, lt, such) = by_some (first + 1) ps k job have.1 other at in (n, omega (arith, lt), such)
  ]

  pub all_ended : (first : ℕ) (ps : List (PassState J)) → HaveWorked b Such first ps → All (HasEnded b) ps
  all_ended first [] have = λ k d lt. absurd (omega (arith, lt))
  all_ended first (p ∷ ps) have = All-cons (HasEnded b) p ps have.0.ended (all_ended (first + 1) ps have.1)

  -- the workers of some passes have worked, and so have those of the passes after these
  pub by_parts : (first next : ℕ) (ps qs : List (PassState J)) → HaveWorked b Such first ps → HaveWorked b Such next qs
      → next ≡ first + length ps → HaveWorked b Such first (ps ++ qs)
  by_parts first next [] qs have after is =
      let same : next ≡ first = omega (arith, is) in rw same at after
  by_parts first next (p ∷ ps) qs have after is =
      (have.0, by_parts (first + 1) next ps qs have.1 after (omega (arith, is)))

-- each job was drawn by a worker that passed the gate for it
pub each_passed : {J : Type 0} (passed : ℕ → ℕ → Type 0) (system : J → ℕ) (b : BoardView J) (ps : List (PassState J)) (n : ℕ)
    → length ps ≤ n → HoldsEachOnce (length (jobs_of b)) (drawn_by ps)
    → HaveWorked b (λ worker job. passed worker (system job)) 0 ps
    → (k : ℕ) (job : J) → slice_get (jobs_of b) k ≡ Some job → PassedGate passed n (system job)
each_passed passed system b ps n many once have k job at =
    let one = once.once k (slice_get_within (jobs_of b) k job at) in
    let (i, lt, such) = by_some b (λ worker job. passed worker (system job)) 0 ps k job have (found k (drawn_by ps) (omega (arith, one))) at in
    (i, omega (arith, lt, many), such)

-- ---- more workers, and more systems

module _ (passed : ℕ → ℕ → Type 0) where
  more_workers : (n m : ℕ) (systems : List ℕ) → n ≤ m → All (PassedGate passed n) systems
      → All (PassedGate passed m) systems
  more_workers n m systems le all = λ k d lt. let by = all k d lt in (by.0, omega (arith, le, by.1), by.2)

  -- the workers of some systems, and of more
  pub more_passed : (n : ℕ) (some more : List ℕ) → EachPassedGate passed n some → EachPassedGate passed n more
      → EachPassedGate passed n (some ++ more)
  more_passed n some more one other =
      let m : ℕ = min n (length (some ++ more)) in
      let sum = length-append some more in
      All-append (PassedGate passed m) some more (more_workers (min n (length some)) m some (omega (arith, sum)) one)
      (more_workers (min n (length more)) m more (omega (arith, sum)) other)
