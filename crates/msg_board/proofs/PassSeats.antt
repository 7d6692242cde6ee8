-- A step on a seat does to the pass that callers see what a clause says. The last seat gathers all the others.
use Rattle.std.specs.List.{All, filter, flat_map}
use Rattle.std.proofs.Common.{true, false, not, ◌≡◌, ℕ, ◌+◌, ◌<◌, List, [], ◌∷◌, ◌++◌, length, refl, ap, ◌∙◌, arith, Some, None, length-append}
use Rattle.std.proofs.lemmas.{List.Elements.All-head, List.Elements.All-pop, List.Elements.All-push, List.Elements.All-tail, List.Elements.All-weaker, List.flat_map_more, Bool.Decides.eqb_tells, Bool.false_from_ne_true}
use mathlib.Core.Option.{some}
use lib.ListN.{get_elem?}
use Rattle.atomic_table.specs.{declared.shared.Seat.Seat, Table.Me}
use Rattle.msg_board.specs.Prelude.{BoardView, Done, Drew, Empty, HandedIn, HasEnded, Inside, Job, PassState, Slot, View, drawn_by, without_job, handed_in, is_held, with_job, times, view_union}
use Rattle.msg_board.specs.{inner.Closing.IsGathered, inner.Seats.IsSeatOf, inner.SoundPasses.pass_state, inner.SoundPasses.IsSoundPass}
use Rattle.msg_board.proofs.{TableLists.got, Sums.times-append}

-- below the number that is held, all was handed in
handed_in_below : (earlier : List ℕ) (k : ℕ) → All (λ n. n < k) earlier
    → filter (λ n. not (is_held n (Some k))) (earlier ++ k ∷ []) ≡ earlier
handed_in_below [] k below = grind (arith, eqb_tells)
handed_in_below (n ∷ ns) k below =
    let rest = handed_in_below ns k (All-tail (λ n. n < k) n ns below) in
    grind (arith, eqb_tells, All-head (λ n. n < k) n ns below, rest)

filter_true : {X : Type 0} (xs : List X) → filter (λ _. true) xs ≡ xs
filter_true [] = refl
filter_true (x ∷ xs) = ap (λ ys. x ∷ ys) (filter_true xs)

-- a pass that holds nothing has handed in all that it drew
pub handed_in-idle : {J : Type 0} (p : PassState J) → p.holding ≡ None → handed_in p ≡ p.drawn
handed_in-idle p idle = rw idle (filter_true p.drawn)

module _ {J D : Type 0} where
  -- A pass drew its next number: `drawn` is its seat after the step, and `seat` after it took the job out of the slot
  module _ (p : Inside J D) (drawn seat : Seat (Slot J D) (View J)) (j : J) (sound : IsSoundPass p)
      (told : drawn.me ≡ (with_job p.next p.seat.me.0, (p.next, Job j) ∷ []))
      (took : seat.me ≡ (drawn.me.0, (p.next, Empty) ∷ [])) where
    -- its fields
    abbrev drew_pass : Inside J D
    drew_pass = record { seat = seat; next = p.next + 1; held = Some p.next; finished = p.finished }

    -- it is sound
    pub drew_sound : p.next < length p.seat.me.0.jobs → IsSoundPass drew_pass
    drew_sound more =
        let seat_was = sound.seat in let order = sound.order in
        let drawn_below = All-push (λ n. n < p.next + 1) p.seat.me.0.drawn p.next
        (All-weaker (λ n. n < p.next) (λ n. n < p.next + 1) (λ n l. omega arith) p.seat.me.0.drawn order.below)
        (omega arith) in
        grind (arith, told, took, drawn_below)

    -- and this is what it drew, of the state that callers see
    pub drew_said : (before : PassState J) (jobs : List J) (job : J) → pass_state p ≡ before → before.jobs ≡ jobs
        → before.tried < length jobs → get_elem? p.seat.me.0.jobs p.next ≡ some j
        → drawn.me.1 ≡ (p.next, Job job) ∷ [] → Drew jobs before (pass_state drew_pass) before.tried job
    drew_said before jobs job is own more at was =
        grind (arith, told, took, was, sound.order, false_from_ne_true, got p.seat.me.0.jobs p.next j at)

  -- A pass handed in what it held: `full` is its seat after it put the result into the slot, and `seat` after the step
  module _ (p : Inside J D) (full seat : Seat (Slot J D) (View J)) (k : ℕ) (d : D) (sound : IsSoundPass p)
      (put : full.me ≡ (p.seat.me.0, (k, Done d) ∷ [])) (told : seat.me ≡ (without_job full.me.0, [])) where
    -- its fields
    abbrev handed_pass : Inside J D
    handed_pass = record { seat = seat; next = p.next; held = None; finished = p.finished }

    -- it is sound
    pub handed_sound : IsSoundPass handed_pass
    handed_sound = grind (arith, put, told, sound.seat, sound.order)

    -- and this is what the hand-in did, of the state that callers see
    pub handed_said : (before : PassState J) → pass_state p ≡ before → before.holding ≡ Some k
        → HandedIn before (pass_state handed_pass) k
    handed_said before is has =
        let last = sound.order.last k (ap (λ q. q.holding) is ∙ has) in
        grind (arith, put, told, last, handed_in_below last.0 k last.2, handed_in-idle (pass_state handed_pass))

-- a pass holds a number below the number of jobs
pub held_within : {J D : Type 0} (p : Inside J D) (k : ℕ) → IsSoundPass p → p.held ≡ Some k
    → k < length p.seat.me.0.jobs
held_within p k sound has =
    let last = sound.order.last k has in
    let below = All-pop (λ n. n < p.next) p.seat.me.0.drawn last.0 (Some k) last.1 sound.order.below in
    grind (arith, sound.order.within, below)

-- a pass that has a number left to try isn't finished
pub unfinished_more : {J D : Type 0} (p : Inside J D) → p.next < length p.seat.me.0.jobs → IsSoundPass p
    → p.finished ≡ false
unfinished_more p more sound = grind (arith, false_from_ne_true, sound.order.all_tried)

-- passes that have ended have handed in all that they drew
pub all_handed_in : {J : Type 0} (b : BoardView J) (ps : List (PassState J)) → All (HasEnded b) ps
    → flat_map handed_in ps ≡ flat_map (λ p. p.drawn) ps
all_handed_in b [] all = refl
all_handed_in b (p ∷ ps) all =
    let here = handed_in-idle p (All-head (HasEnded b) p ps all).holding in
    grind (arith, here, all_handed_in b ps (All-tail (HasEnded b) p ps all))

-- how often k was drawn by the passes, with one more pass
times_more : {J : Type 0} (k : ℕ) (qs ps : List (PassState J)) (p : PassState J) → qs ≡ ps ++ p ∷ []
    → times k (flat_map (λ p. p.drawn) qs) ≡ times k (flat_map (λ p. p.drawn) ps) + times k p.drawn
times_more {J = J} k qs ps p is =
    let drawn : PassState J → List ℕ = λ p. p.drawn in
    grind (arith, flat_map_more drawn [] ps p, times-append k (flat_map drawn ps) p.drawn)

module _ {J D : Type 0} where
  -- the last pass's seat comes first
  pub gathers_first : (b : BoardView J) (all ps : List (PassState J)) (p : PassState J)
      (seat : Seat (Slot J D) (View J))
      → All (HasEnded b) all → all ≡ ps ++ p ∷ []
      → IsSeatOf p seat → (p.finished ≡ true → p.tried ≡ length p.jobs) → IsGathered b all ps seat
  gathers_first b all ps p seat every is of all_tried =
      let parts = All-pop (HasEnded b) all ps (Some p) is every in
      let drawn : (k : ℕ) → times k seat.me.0.drawn + times k (drawn_by ps) ≡ times k (drawn_by all)
      = λ k. omega (arith, ap (times k) of.drawn, times_more k all ps p is) in
      grind (arith, parts, of, all_tried, length-append ps (p ∷ []), drawn)

  -- and takes in the others, one by one
  pub gathers : (b : BoardView J) (all qs ps : List (PassState J)) (p : PassState J)
      (seat other next : Seat (Slot J D) (View J))
      → IsGathered b all qs seat → qs ≡ ps ++ p ∷ [] → IsSeatOf p other
      → next.table_id ≡ seat.table_id → next.me ≡ (view_union seat.me.0 other.me.0, seat.me.1)
      → IsGathered b all ps next
  gathers b all qs ps p seat other next before is of here now =
      let parts = All-pop (HasEnded b) qs ps (Some p) is before.ended in
      let drawn : (k : ℕ) → times k next.me.0.drawn + times k (drawn_by ps) ≡ times k (drawn_by all)
      = λ k. omega (
        arith,
        before.drawn k,
        ap (λ (m : Me (Slot J D) (View J)). times k m.0.drawn) now,
        times-append k seat.me.0.drawn other.me.0.drawn,
        ap (times k) of.drawn,
        times_more k qs ps p is,
      ) in
      grind (arith, parts, of, before, now, length-append ps (p ∷ []), drawn)
