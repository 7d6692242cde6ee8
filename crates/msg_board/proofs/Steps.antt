-- Each step keeps the law.
use Rattle.std.specs.List.{sum_by}
use Rattle.std.proofs.Common.{◌≡◌, ◌≢◌, ℕ, ◌+◌, ◌<◌, ◌≤◌, max, List, [], ◌∷◌, ◌++◌, map, length, get_or, set, sym, refl, ap, ◌∙◌, inl, inr, arith, Some, None, length-set, get_or-set_other, get_or-set_same}
use Rattle.std.proofs.lemmas.{Bool.cases_eq, Bool.cases_lt, Bool.Decides.eqb_tells, List.get_or_past, List.set-get_or, List.Sums.sum_by-append}
use mathlib.Core.Option.{none, some, some-ne-none}
use mathlib.Core.Option as maybe
use lib.ListN.{get_elem?, length-map}
use Rattle.atomic_table.specs.{declared.shared.Seat.Seat, Table.State, Table.Me, Table.step, Table.keeps, Table.takes, Table.gives, Table.Allows, Table.Splits, Table.Joins, Table.Final, Table.Seen, Table.opening}
use Rattle.atomic_table.proofs.Lists.{set_here, set_else, at_map}
use Rattle.msg_board.specs.Prelude.{BoardView, Done, Drawing, HandingIn, Holds, HoldsEachOnce, IsHeldAlone, IsSlotOf, IsViewOf, Job, PassState, Slot, View, draws_at, drawn_by, without_job, holders_at, is_held, jobs_of, one_of, passes_of, empty_view, with_job, times, tried, view_union, whole_view, without_one}
use Rattle.msg_board.specs.inner.Closing.{IsGathered}
use Rattle.msg_board.proofs.{TableLists.there, TableLists.read_at, TableLists.changed, TableLists.joined, Sums.sum_by-set_at, Sums.term_le, Sums.terms_le, Sums.sole, Sums.one_if, Sums.times-append, Sums.times_push}

module _ {J D : Type 0} (lawful : J → D → Type 0) (jobs : List J) (passes : ℕ) where
  -- states of the table, seats, and the law
  abbrev St : Type 0
  St = State (Slot J D) (View J)

  abbrev M : Type 0
  M = Me (Slot J D) (View J)

  abbrev Lawful : St → Type 0
  Lawful = Holds lawful jobs passes

  -- 1 if the view holds k
  abbrev holds_one : ℕ → View J → ℕ
  holds_one k v = one_if (is_held k v.held)

  -- the law is kept if word i becomes n, view v becomes w, and no slot but i changes
  moved : (s : St) (r : Lawful s) (i n id : ℕ) (v w : View J) (homes : List (maybe.Option (Slot J D)))
      → i < length jobs → get_elem? s.views id ≡ some v
      → n ≤ 2 → (get_or s.words i 0 ≢ 0 → n ≢ 0) → length homes ≡ length s.homes
      → ((k : ℕ) → k ≢ i → get_elem? homes k ≡ get_elem? s.homes k)
      → ((j : J) → get_elem? jobs i ≡ some j → IsSlotOf lawful j n (get_elem? homes i))
      → IsViewOf jobs (set s.words i n) w
      → ((k : ℕ) → holds_one k w + holders_at (get_or s.words k 0)
      ≡ holds_one k v + holders_at (get_or (set s.words i n) k 0))
      → ((k : ℕ) → times k w.drawn + draws_at (get_or s.words k 0)
      ≡ times k v.drawn + draws_at (get_or (set s.words i n) k 0))
      → w.weight ≡ v.weight → Lawful record { words = set s.words i n; homes = homes; views = set s.views id w }
  moved s r i n id v w homes inside at small rises long others here known holding drawing weigh =
      let wide = r.words in let near : i < length s.words = omega arith in
      let set_there = get_or-set_same s.words i n 0 near in
      record {
        words = length-set s.words i n ∙ wide;
        slots = long ∙ r.slots;
        at_most_two = λ k. grind (arith, cases_eq k i, set_there, get_or-set_other s.words i k n 0, r.at_most_two k);
        further = get_or-set_other s.words i (length jobs) n 0 (λ e. omega arith) ∙ r.further;
        each_slot = λ k j is. elim (cases_eq k i) [
          | inl e ↦ rw (e, set_there) (here j (rw e at is))
          | inr ne ↦ rw (get_or-set_other s.words i k n 0 ne, others k ne) (r.each_slot k j is)
        ];
        each_view = changed (IsViewOf jobs (set s.words i n)) s.views id w known (λ by u _ is.
            let old = r.each_view by u is in
            grind (arith, cases_eq, get_or-set_same s.words i n 0 near, get_or-set_other s.words i, rises, old));
        held = λ k. omega (arith, sum_by-set_at (holds_one k) s.views id v w at, r.held k, holding k);
        drawn = λ k. omega (arith, sum_by-set_at (λ u. times k u.drawn) s.views id v w at, r.drawn k, drawing k);
        weights = omega (arith, sum_by-set_at (λ u. u.weight) s.views id v w at, r.weights);
      }

  -- A view that holds nothing tries word i, its next
  module _ (s : St) (r : Lawful s) (id i : ℕ) (v : View J) (at : get_elem? s.views id ≡ some v) (live : 0 < v.weight)
      (free : v.held ≡ None) (is : v.next ≡ i) (inside : i < length jobs) where
    -- word i is there
    near : i < length s.words
    near = let wide = r.words in omega arith

    -- it finds 0, and takes the job out
    finds_zero : (n : ℕ) → n ≡ 1 → get_or s.words i 0 ≡ 0
        → Lawful record { words = set s.words i n; homes = set s.homes i none; views = set s.views id (with_job i v) }
    finds_zero n one zero_there =
        let long = r.slots in let set_there = get_or-set_same s.words i 1 0 near in
        let other = λ (k : ℕ). get_or-set_other s.words i k 1 0 in
        rw one (moved s r i 1 id v (with_job i v) (set s.homes i none) inside at (omega arith) (λ _. (λ e. omega arith))
        (length-set s.homes i none) (λ k ne. set_else s.homes i k none ne)
        (λ j' is'. grind (arith, set_here s.homes i none))
        (grind (arith, cases_eq, set_there, get_or-set_other s.words i, r.each_view id v at))
        (λ k. grind (arith, eqb_tells, cases_eq k i, set_there, other k))
        (λ k. grind (arith, eqb_tells, times_push k v.drawn i, cases_eq k i, set_there, other k)) refl)

    -- it finds another number, and leaves it there
    finds_more : (n : ℕ) → n ≡ get_or s.words i 0 → get_or s.words i 0 ≢ 0
        → Lawful record { words = set s.words i n; homes = s.homes; views = set s.views id (tried v) }
    finds_more n same more =
        let stays = λ (k : ℕ). ap (λ ws. get_or ws k 0) (set-get_or s.words i 0) in
        rw same (moved s r i (get_or s.words i 0) id v (tried v) s.homes inside at (r.at_most_two i) (λ _. more) refl
        (λ k ne. refl) (λ j' is'. r.each_slot i j' is')
        (rw (set-get_or s.words i 0) (grind (arith, cases_eq, r.each_view id v at)))
        (λ k. rw (stays k) refl) (λ k. rw (stays k) refl) refl)

  -- a draw: `fetch_max` with 1 on the view's next word
  pub draws : (slots id : ℕ) (me : M) (i : ℕ) → me.1 ≡ [] → 0 < me.0.weight → me.0.held ≡ None → me.0.next ≡ i
      → i < slots
      → Allows Lawful slots id me i (λ n. max n 1) (Drawing (step slots i 1 0 none) me)
  draws slots id me i empty live free is within s r deep at small =
      let inside : i < length jobs = omega (arith, r.slots) in let there_is = there jobs i inside in
      let own = ap (λ (l : List J). get_elem? l i) ((r.each_view id me.0 at).same_jobs live) ∙ there_is.1 in
      let n : ℕ = max (get_or s.words i 0) 1 in elim (cases_eq (get_or s.words i 0) 0) [
        | inl hit ↦ (
          with_job i me.0,
          takes i (Job there_is.0),
          (r.each_slot i there_is.0 there_is.1).waiting hit,
          finds_zero s r id i me.0 at live free is inside n (omega arith) hit,
          grind (arith, own, empty, is, hit),
        )
        | inr miss ↦ (
          tried me.0,
          keeps,
          tt,
          finds_more s r id i me.0 at live free is inside n (omega arith) miss,
          grind (arith, empty, is, miss),
        )
      ]

  -- a word whose number is held is 1
  word_is_one : (s : St) (k : ℕ) → Lawful s → (by : ℕ) (v : View J) → get_elem? s.views by ≡ some v → v.held ≡ Some k
      → get_or s.words k 0 ≡ 1
  word_is_one s k r by v at has = grind (arith, eqb_tells, term_le (holds_one k) s.views by v at, r.held k)

  -- past the words of the jobs there is 0
  zero_far : (s : St) (k : ℕ) → Lawful s → length jobs ≤ k → get_or s.words k 0 ≡ 0
  zero_far s k r far = grind (arith, cases_eq k (length jobs), r.further, r.words, get_or_past s.words k 0)

  -- a number that a view holds is held by no other, and its slot is out
  pub held_alone : (s : St) (k : ℕ) → Lawful s → IsHeldAlone s k
  held_alone s k r = record {
    by_one = λ by other v w at there_is has also.
        let is_one = word_is_one s k r by v at has in
        grind (arith, terms_le (holds_one k) empty_view refl s.views by other v w, r.held k, is_one, eqb_tells);
    slot_out = λ by v at has. let is_one = word_is_one s k r by v at has in
        elim (cases_lt k (length jobs)) [
          | inl near ↦ let job = there jobs k near in (r.each_slot k job.0 job.1).out is_one
          | inr far ↦ absurd (omega (arith, zero_far s k r far))
        ];
  }

  -- a hand-in: a store of 2 on the word of the number that is held
  pub hands_in : (slots id : ℕ) (m : M) (v : View J) (k : ℕ) (j : J) (d : D) → m ≡ (v, (k, Done d) ∷ [])
      → 0 < v.weight → v.held ≡ Some k → get_elem? v.jobs k ≡ some j → lawful j d
      → Allows Lawful slots id m k (λ _. 2) (λ _. HandingIn (step slots k 2 0 none) m 2)
  hands_in slots id m v k j d e live has is fair = rw e (λ s r deep at small.
      let knows = r.each_view id v at in
      let is' : get_elem? jobs k ≡ some j = ap (λ (l : List J). get_elem? l k) (sym (knows.same_jobs live)) ∙ is in
      let inside = (read_at jobs k j is').0 in let wide = r.words in let long = r.slots in
      let near : k < length s.words = omega arith in
      let one = word_is_one s k r id v at has in let set_there = get_or-set_same s.words k 2 0 near in (
        without_job v,
        gives,
        tt,
        moved s r k 2 id v (without_job v) (set s.homes k (some (Done d))) inside at (omega arith)
            (λ _. (λ e. omega arith))
            (length-set s.homes k (some (Done d))) (λ i ne. set_else s.homes k i (some (Done d)) ne)
            (λ j' also. grind (arith, set_here s.homes k (some (Done d)), is', fair))
            (grind (arith, cases_eq, set_there, get_or-set_other s.words k, knows))
            (λ i. grind (arith, eqb_tells, cases_eq i k, one, set_there, get_or-set_other s.words k i 2 0))
            (λ i. grind (arith, cases_eq i k, one, set_there, get_or-set_other s.words k i 2 0))
            refl,
        record { word = has; operand = (refl, refl); result = (d, refl); given_back = refl },
      ))

  -- the first seat gives one pass away
  pub divides : (id : ℕ) (v : View J) → 1 < v.weight → Splits Lawful id v (without_one v) (one_of v)
  divides id v many s r at =
      let old = r.each_view id v at in let vs = set s.views id (without_one v) in let Of = IsViewOf jobs s.words in
      let both : (g : View J → ℕ) → sum_by g (vs ++ one_of v ∷ []) + g v
      ≡ sum_by g s.views + g (without_one v) + g (one_of v)
      = λ g. omega (arith, sum_by-append g vs (one_of v ∷ []), sum_by-set_at g s.views id v (without_one v) at) in
      let known = joined (λ _. Of) vs (one_of v) (grind (arith, old.same_jobs))
      (changed Of s.views id (without_one v) (grind (arith, old)) (λ k u _. r.each_view k u)) in
      let held = λ (k : ℕ). both (holds_one k) in let drawn = λ (k : ℕ). both (λ u. times k u.drawn) in
      let weights = both (λ u. u.weight) in grind (arith, r, known, held, drawn, weights)

  -- a seat takes in another, which holds nothing
  pub unites : (id : ℕ) (v : View J) (other : ℕ) (w : View J) → 0 < v.weight → w.held ≡ None
      → Joins Lawful id v other w (view_union v w) empty_view
  unites id v other w live free s r at apart them =
      let old = r.each_view id v at in let vs = set s.views id (view_union v w) in let Of = IsViewOf jobs s.words in
      let both : (g : View J → ℕ) → sum_by g (set vs other empty_view) + g w + g v
      ≡ sum_by g s.views + g (view_union v w) + g empty_view
      = λ g. omega (
        arith,
        sum_by-set_at g s.views id v (view_union v w) at,
        sum_by-set_at g vs other w empty_view them,
      ) in
      record {
        words = r.words;
        slots = r.slots;
        at_most_two = r.at_most_two;
        further = r.further;
        each_slot = r.each_slot;
        each_view = changed Of vs other empty_view (grind arith)
            (λ k u _. changed Of s.views id (view_union v w) (grind (arith, old)) (λ k u _. r.each_view k u) k u);
        held = λ k. omega (arith, both (holds_one k), r.held k, ap (λ o. one_if (is_held k o)) free);
        drawn = λ k. omega (arith, both (λ u. times k u.drawn), r.drawn k, times-append k v.drawn w.drawn);
        weights = omega (arith, both (λ u. u.weight), r.weights);
      }

  -- the table at the start, with words of 0 and the jobs in its slots
  pub starts : (ws : List ℕ) (xs : List (Slot J D)) → length ws ≡ length jobs + 1
      → ((k : ℕ) → get_or ws k 0 ≡ 0) → xs ≡ map Job jobs → 0 < passes
      → Lawful (opening ws xs (whole_view jobs passes))
  starts ws xs wide zeros is some-pass =
      let home = λ (k : ℕ) (j : J). at_map {B = maybe.Option (Slot J D)} some xs k (Job j) in
      let job = λ (k : ℕ) (j : J). at_map {B = Slot J D} Job jobs k j in
      let known = joined (λ _. IsViewOf jobs ws) [] (whole_view jobs passes) (grind arith)
      (λ k u at. absurd (some-ne-none u (sym at))) in
      let slots = length-map xs some ∙ (ap length is ∙ length-map jobs Job) in
      grind (arith, wide, zeros, home, job, known, slots, is)

-- a seat that has gathered all passes has tried every word and holds nothing: every result is in, and the passes drew
-- each number once
pub closes : {J D : Type 0} (lawful : J → D → Type 0) (b view : BoardView J) (ps : List (PassState J))
    (seat : Seat (Slot J D) (View J)) (ws : List ℕ) (xs : List (Slot J D))
    → Final (Seen (Holds lawful (jobs_of b) (passes_of b)) seat.id seat.me.0) ws xs → 0 < passes_of b → b ≡ view
    → length ps ≡ passes_of view → IsGathered view ps [] seat
    → ((k : ℕ) (j : J) → get_elem? (jobs_of view) k ≡ some j
    → (d : D) × (get_elem? xs k ≡ some (Done d)) × lawful j d) × HoldsEachOnce (length (jobs_of view)) (drawn_by ps)
closes {J = J} lawful b view ps seat ws xs final some-pass is all of =
    let s = final.0 in let r = final.1.0 in let at = final.1.1 in let many = ap passes_of is in
    let as_long : length (jobs_of b) ≡ length (jobs_of view) = ap (λ board. length (jobs_of board)) is in
    let v = seat.me.0 in let live = of.live in let next = of.next in let knows = r.each_view seat.id v at in
    let others : (k : ℕ) (u : View J) → k ≢ seat.id → get_elem? s.views k ≡ some u → u.weight ≡ 0 = λ k u ne there.
    omega (arith, terms_le (λ u. u.weight) empty_view refl s.views seat.id k v u ne at there, r.weights, of.count) in
    let drawn_at : (k : ℕ) → times k (drawn_by ps) ≡ draws_at (get_or s.words k 0) = λ k.
    let one = sole (λ u. times k u.drawn) empty_view refl s.views seat.id v at
    (λ i u ne there. ap (times k) ((r.each_view i u there).spent_drawn (others i u ne there))) in
    omega (arith, of.drawn k, one, r.drawn k) in
    let out_at : (k : ℕ) → holders_at (get_or s.words k 0) ≡ 0 = λ k.
    let one = sole (λ u. one_if (is_held k u.held)) empty_view refl s.views seat.id v at
    (λ i u ne there. ap (λ o. one_if (is_held k o)) ((r.each_view i u there).spent_held (others i u ne there))) in
    omega (arith, r.held k, one, ap (λ o. one_if (is_held k o)) of.held) in (
      λ k j own.
          let inside = (read_at (jobs_of view) k j own).0 in
          let here = r.each_slot k j (rw is own) in
          let ended = here.done (grind (arith, r.at_most_two k, knows.tried live k, out_at k)) in
          (ended.0, final.4 k (Done ended.0) ended.1, ended.2),
      record {
        once = λ k near. grind (arith, drawn_at k, knows.tried live k);
        no_other = λ k far. drawn_at k ∙ ap draws_at (zero_far lawful (jobs_of b) (passes_of b) s k r (omega arith));
      },
    )
