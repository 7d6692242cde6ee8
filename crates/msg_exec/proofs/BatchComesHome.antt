-- The systems of a batch come home, one after the other.
use Rattle.std.proofs.Common.{◌≡◌, ◌≢◌, ◌||◌, ℕ, ◌<◌, false, List, [], ◌∷◌, ◌++◌, length, map, None, Result, Ok, IfOk, append_assoc, refl, sym, ap, ◌∙◌, subst, arith, All, AllPairs, Contains, IsSomeAnd, IsTrue, is_some, slice_get, if◌then◌else◌, inl, inr}
use Rattle.std.proofs.lemmas.{Bool.cases_Bool, Bool.Decides.eqb_tells, Result.IfOk-weaker}
use Rattle.std.proofs.lemmas.List.{append-nil, get_or-set_other, get_or-set_same, length-set, map-append, nil_from_length}
use Rattle.std.proofs.lemmas.List.Elements.{All-cons, All-contains, All-head, All-tail, Contains-append_right}
use Rattle.std.proofs.lemmas.Slice.Zip.{AllZip-long, AllZip-left}
use Rattle.std.proofs.lemmas.Option.{get_or_from_slice_get, slice_get_within}
use Rattle.std.specs.List.{AllZip}
use Rattle.msg_world.specs.declared.access.Access.{Access}
use Rattle.msg_world.specs.{declared.part.Part.Part, Prelude.IsApart, Prelude.PartsStand, Prelude.SameShape, Prelude.SameSize, Prelude.slot, Prelude.writes, Prelude.Values}
use Rattle.msg_order.specs.Prelude.{access_of}
use Rattle.msg_system.specs.Prelude.{Job as JobState, Meaning, after_job}
use Rattle.msg_exec.specs.Prelude.{IsAfterJob, IsDone, JobView, Lender, LenderStands, TotalsStand, job_state, system_at}
use Rattle.msg_frames.specs.declared.log.Turn.{Turn}
use Rattle.msg_frames.specs.Prelude.{AreAccessesOf, SameSystems, State, all_home, home, logged_turn, member_after, turn_of}
use Rattle.msg_exec.specs.{inner.Batches.AreResults, inner.Batches.HasTurned, inner.Batches.IsBatch, inner.Totals.HasFewReplies, inner.SystemsOut.AreOut, inner.SystemsOut.ComesHome, inner.SystemsOut.IsOut, inner.SystemsOut.any_writes}
use Rattle.msg_exec.proofs.JobsAreDone.{none_there}
use Rattle.msg_exec.proofs.BatchGoesOut.{has_written, left_stands}
use Rattle.msg_exec.proofs.SystemAfterTurn.{few_replies, its_own, of_another, totals_after}
use Rattle.msg_exec.proofs.ItemsOfLists.{get_other, get_same, some_of, zip_of_each}
use Rattle.msg_exec.proofs.BatchWritesApart.{later_write_not, written_is_used, Free}
use Rattle.msg_frames.proofs.{BatchesSideBySide.side_by_side, SystemsStay.turns_keep_systems, ElementsAndPairs.pairs_head, ElementsAndPairs.pairs_right}
use Rattle.msg_system.proofs.FootprintsHold.{job_footprint}
use Rattle.msg_world.proofs.Loans.{home_merges}
use Rattle.msg_order.proofs.Elements.{Contains-cases, Contains-head, Contains-tail, not_in_none}

-- the first beside one that is there, and none beside none
first_beside : {X Y : Type 0} (R : X → Y → Type 0) (xs : List X) (y : Y) (ys : List Y) → AllZip R xs (y ∷ ys)
    → (x : X) × (rest : List X) × (xs ≡ x ∷ rest) × R x y × AllZip R rest ys
first_beside R [] y ys all = absurd all
first_beside R (x ∷ rest) y ys all = (x, rest, refl, all.0, all.1)

module _ {V : Type 0} {values : Values V} where
  pub all_home_more : (accesses : List Access) (start : State values) (come : List ℕ) (i : ℕ) (s : State values)
      → all_home accesses start (come ++ i ∷ []) s ≡ home accesses start i (all_home accesses start come s)
  all_home_more accesses start [] i s = refl
  all_home_more accesses start (x ∷ come) i s = all_home_more accesses start come i (home accesses start x s)

module _ {S V : Type 0} where
  -- a system may come home
  pub record MayCome (now : Lender S V) (d : JobView S V) : Type 0 where
    pub systems : d.number < length now.systems.items
    pub totals : d.number < length now.totals.items
    pub apart : IsApart d.taken now.world
    pub few : HasFewReplies d.outcome

module _ {S V : Type 0} {values : Values V} (meaning : S → Meaning V) where
  -- ---- what the jobs of a batch give

  -- What system i gives back: all that its access writes, as its turn on the state s leaves that.
  pub record IsBack (whole : Lender S V) (s : State values) (i : ℕ) (d : JobView S V) : Type 0 where
    pub number : d.number ≡ i
    pub size : SameSize whole.world d.taken
    pub there : (p : Part) → is_some (slot p d.taken) ≡ writes (access_of whole.accesses.items i) p
    pub after : IsAfterJob meaning (after_job (s.members i).job s.world) d.guarded d.taken d.outcome

  pub is_back : {whole : Lender S V} (left : Lender S V) {s : State values} (i : ℕ) {j : JobView S V} {d : JobView S V}
      → LenderStands meaning whole s → i < s.systems → PartsStand left.world s.world → IsOut whole i j
      → IsDone values meaning left.world j d → IsBack whole s i d
  is_back left {s} i {j} stands lt world out done =
      let taken : PartsStand j.taken s.world = λ p. grind (arith, cases_Bool) in
      grind (arith, has_written, taken)

  -- the same, if no memory was refused to it
  abbrev pub IsResultBack : {E : Type 0} → Lender S V → State values → ℕ → Result (JobView S V) E → Type 0
  IsResultBack whole s i r = IfOk r (IsBack whole s i)

  pub all_back : {E : Type 0} {whole left : Lender S V} {s : State values} {batch : List ℕ} {js : List (JobView S V)}
      {rs : List (Result (JobView S V) E)}
      → IsBatch meaning whole s batch → AreOut whole batch js left → AreResults values meaning left.world js rs
      → AllZip (IsResultBack whole s) batch rs
  all_back {whole = whole} {left} {s} {batch} {js} {rs} of out run =
      let many = run.as_many ∙ AllZip-long (IsOut whole) batch js out.each in
      zip_of_each (IsResultBack whole s) batch rs many (λ k i r at there.
      let (j, (found, its)) = some_of (slice_get js k) (rw at at (AllZip-left (IsOut whole) batch js out.each k)) in
      let below = rw (get_or_from_slice_get batch k i i at) at (of.below k i (slice_get_within batch k i at)) in
      IfOk-weaker r _ _ (λ d done.
      is_back left i of.stands below (left_stands meaning whole left s batch js of.stands.world out) its done)
      (run.each k j r found there).done)

  -- ---- some have come home, and the rest is still out

  -- What stands while the rest is out: u is the state s after what the others wrote has come home.
  pub record Halfway (whole : Lender S V) (s u : State values) (rest : List ℕ) (now : Lender S V) : Type 0 where
    pub systems : length now.systems.items ≡ s.systems
    pub accesses : now.accesses.items ≡ whole.accesses.items
    pub as_many : length now.totals.items ≡ s.systems
    pub members : (k : ℕ) → k < s.systems → ¬ Contains rest k
        → IsSomeAnd (system_at now k) (λ a. job_state meaning a ≡ (u.members k).job)
    pub totals : (k : ℕ) → k < s.systems
        → IsSomeAnd (slice_get now.totals.items k) (λ v. TotalsStand s.types v.items (u.members k).totals)
    pub untouched : (k : ℕ) → Contains rest k → u.members k ≡ s.members k
    pub world : PartsStand now.world u.world
    pub size : SameSize whole.world now.world
    pub there : (p : Part) → is_some (slot p now.world)
        ≡ (if any_writes whole.accesses.items rest p then false else is_some (slot p whole.world))

  module _ (whole now : Lender S V) (s u : State values) (i : ℕ) (rest : List ℕ) (d : JobView S V)
      (stands : LenderStands meaning whole s) (lt : i < s.systems)
      (half : Halfway whole s u (i ∷ rest) now) (back : IsBack whole s i d) where
    -- what it gives back is out of the world
    out_of_world : (p : Part) → IsTrue (writes (access_of whole.accesses.items i) p) → slot p now.world ≡ None
    out_of_world p is = grind (arith, half.there p, none_there)

    pub may_come : MayCome now d
    may_come = grind (arith, few_replies, out_of_world)

    module _ (new : Lender S V) (comes : ComesHome meaning now d new) (fresh : ¬ Contains rest i)
        (free : All (Free whole.accesses.items i) rest) where
      totals_back : IsSomeAnd (slice_get new.totals.items i)
          (λ v. TotalsStand s.types v.items (member_after (turn_of s i) (s.members i)).totals)
      totals_back =
          let there = rw (half.untouched i (Contains-head i rest)) at (half.totals i lt) in
          let old = some_of (slice_get now.totals.items i) there in
          let entered = comes.totals.2 old.0 (rw back.number old.1.0) in
          let after = totals_after s.types (s.members i) s.world old.0.items comes.totals.0.items _ d.outcome
          (ap (λ (j : JobState V). j.system.last) back.after.job) back.after.outcome old.1.1 entered.as_many
          entered.entered in
          grind (arith, after, get_same)

      -- one more is home
      pub one_home : Halfway whole s (home whole.accesses.items s i u) rest new
      one_home = record {
        systems = comes.as_many ∙ half.systems;
        accesses = comes.accesses ∙ half.accesses;
        as_many = grind (arith, length-set);
        members = λ k below away. elim (eqb_tells k i) [
          | inl same ↦ rw (same.1, its_own i (member_after (turn_of s i) (s.members i)) u.members) (grind (arith, get_or-set_same))
          | inr other ↦
              let out : ¬ Contains (i ∷ rest) k = λ there. grind (arith, Contains-cases) in
              grind (arith, get_or-set_other, half.members k below out, of_another)
        ];
        totals = λ k below. grind (arith, eqb_tells, get_other, its_own, of_another, totals_back);
        untouched = λ k there. grind (arith, Contains-tail, of_another);
        world = home_merges (access_of whole.accesses.items i) d.taken now.world new.world (turn_of s i).world u.world
            (λ p isnt. none_there (slot p d.taken) (back.there p ∙ isnt)) out_of_world comes.taken_back
            back.after.written half.world;
        size = grind (arith, comes.taken_back.size, half.size);
        there = λ p.
            let later = later_write_not whole.accesses.items rest i p free in
            let here = (stands.members i lt).home p in
            let either : is_some (slot p new.world) ≡ (is_some (slot p d.taken) || is_some (slot p now.world)) =
            grind (arith, comes.taken_back.joined p) in
            either ∙ elim (cases_Bool (writes (access_of whole.accesses.items i) p)) [
              | inl is ↦ grind (arith, back.there p, here (written_is_used _ p is), later (written_is_used _ p is))
              | inr isnt ↦ grind (arith, back.there p, half.there p)
            ];
      }

  -- all are home
  stands_again : (whole now : Lender S V) (s u : State values) → LenderStands meaning whole s → SameSystems s u
      → Halfway whole s u [] now → LenderStands meaning now u
  stands_again whole now s u stands same half =
      let shape : SameShape whole.world now.world = record { size = half.size; there = half.there } in
      grind (arith, not_in_none, shape)

  -- ---- the batch, from its first system that comes home to its last

  pub record ComingHome {E : Type 0} (whole : Lender S V) (batch : List ℕ) (s : State values)
      (rs : List (Result (JobView S V) E)) (now : Lender S V) (before turns : List (Turn V)) : Type 0 where
    pub of : IsBatch meaning whole s batch
    pub come : List ℕ
    pub rest : List ℕ
    pub all : come ++ rest ≡ batch
    pub back : AllZip (IsResultBack whole s) rest rs
    pub half : Halfway whole s (all_home whole.accesses.items s come s) rest now
    pub logged_so_far : turns ≡ before ++ map (logged_turn s) come

  pub begin_home : {E : Type 0} {whole left : Lender S V} {s : State values} {batch : List ℕ} {js : List (JobView S V)}
      {rs : List (Result (JobView S V) E)} {turns : List (Turn V)} → IsBatch meaning whole s batch
      → AreOut whole batch js left → AllZip (IsResultBack whole s) batch rs
      → ComingHome whole batch s rs left turns turns
  begin_home {whole = whole} {left} {s} {batch} {js} {turns = turns} of out back = record {
    of = of;
    come = [];
    rest = batch;
    all = refl;
    back = back;
    half = (let stands = of.stands in grind (arith, cases_Bool, left_stands));
    logged_so_far = sym (append-nil turns);
  }

  module _ {E : Type 0} {whole now : Lender S V} {batch : List ℕ} {s : State values} {d : JobView S V}
      {left rs : List (Result (JobView S V) E)} {before turns : List (Turn V)} (is : left ≡ Ok d ∷ rs)
      (far : ComingHome whole batch s left now before turns) where
    in_batch : (rest : List ℕ) (i : ℕ) → far.come ++ i ∷ rest ≡ batch → i < s.systems
    in_batch rest i all = All-contains (λ i. i < s.systems) batch i far.of.below
        (rw all at (Contains-append_right far.come (i ∷ rest) i (Contains-head i rest)))

    pub next_may_come : MayCome now d
    next_may_come =
        let (i, rest, at, back, _) = first_beside (IsResultBack whole s) far.rest (Ok d) rs (rw is at far.back) in
        may_come whole now s _ i rest d far.of.stands (in_batch rest i (rw at at far.all)) (rw at at far.half) back

    pub next_comes : {new : Lender S V} {turn : Turn V} → ComesHome meaning now d new
        → turn ≡ record { system = d.number; outcome = d.outcome } → ComingHome whole batch s rs new before (turns ++ turn ∷ [])
    next_comes {new} {turn} comes tells =
        let (i, rest, at, back, others_back) =
        first_beside (IsResultBack whole s) far.rest (Ok d) rs (rw is at far.back) in
        let all : far.come ++ i ∷ rest ≡ batch = rw at at far.all in
        let later : (R : ℕ → ℕ → Type 0) → AllPairs R batch → All (R i) rest =
        λ R pairs. pairs_head R i rest (pairs_right R far.come (i ∷ rest) (rw all pairs)) in
        let same : turn ≡ logged_turn s i = tells
        ∙ (λ k. record { system = back.number k; outcome = back.after.outcome k }) in
        record {
          of = far.of;
          come = far.come ++ i ∷ [];
          rest = rest;
          all = append_assoc far.come (i ∷ []) rest ∙ all;
          back = others_back;
          half = rw (all_home_more whole.accesses.items s far.come i s)
              (one_home whole now s _ i rest d far.of.stands (in_batch rest i all) (rw at at far.half) back new comes
              (λ there. All-contains (λ j. i ≢ j) rest i (later (λ i j. i ≢ j) far.of.once) there refl)
              (later (Free whole.accesses.items) far.of.apart));
          logged_so_far = rw (far.logged_so_far, map-append, append_assoc, same) refl;
        }

  -- it is one turn after the other
  pub all_came : {E : Type 0} {whole now : Lender S V} {batch : List ℕ} {s : State values} {left : List (Result (JobView S V) E)}
      {before turns : List (Turn V)}
      → length left ≡ 0 → ComingHome whole batch s left now before turns
      → HasTurned meaning batch s now before turns
  all_came {whole = whole} {now} {batch} {s} nobody far =
      let are : AreAccessesOf s whole.accesses.items = grind (arith, far.of.stands) in
      let side = side_by_side job_footprint s whole.accesses.items batch are far.of.below far.of.once far.of.apart in
      let end = nil_from_length far.rest (sym (AllZip-long (IsResultBack whole s) far.rest _ far.back) ∙ nobody) in
      let come : far.come ≡ batch = rw (end, append-nil) at far.all in record {
        state = stands_again whole now s _ far.of.stands (turns_keep_systems batch s)
            (rw (end, come, ← side.1) at far.half);
        turns = rw (come, ← side.0) at far.logged_so_far;
      }

module _ {S V : Type 0} (P : ℕ → Type 0) (whole : Lender S V) where
  -- the jobs that are out are those of the batch
  pub of_batch : (batch : List ℕ) (jobs : List (JobView S V)) → AllZip (IsOut whole) batch jobs
      → All (λ (j : JobView S V). P j.number) jobs → All P batch
  of_batch [] jobs out told = λ k d lt. absurd (omega (arith, lt))
  of_batch (i ∷ batch) [] out told = absurd out
  of_batch (i ∷ batch) (j ∷ jobs) out told =
      All-cons P i batch (subst P out.0.number (All-head (λ (j : JobView S V). P j.number) j jobs told))
      (of_batch batch jobs out.1 (All-tail (λ (j : JobView S V). P j.number) j jobs told))
