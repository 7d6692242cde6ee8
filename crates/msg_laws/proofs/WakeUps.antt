-- Who is woken by a message and then reads all misses nothing.
use Rattle.std.proofs.Common.{IsTrue, List, [], arith, inl, inr, length, refl, ℕ, ◌++◌, ◌<◌, ◌∙◌, ◌∷◌, ◌≡◌, ◌≢◌, ◌≤◌, ◌⊎◌}
use Rattle.msg_order.specs.Prelude.{has_joined}
use Rattle.std.proofs.lemmas.{Bool.cases_Bool, Bool.cases_lt, Bool.false≢true, Bool.Decides.nat_tests, List.get_or_append_left, List.Elements.All-nil, List.Elements.Contains-append_right, Option.get_or_from_slice_get, Option.slice_get_cases}
use Rattle.msg_buffer.specs.Prelude.{GoesOn, History, IsPresent, IsSound, count, unread}
use Rattle.msg_buffer.proofs.{Presence.not_present, Unread.length-unread}
use Rattle.msg_world.specs.{Prelude.Values, Prelude.WorldState, declared.record.Record.Record}
use Rattle.msg_system.specs.{Prelude.Asked, Prelude.Job, Prelude.after_job, Prelude.all_hold, declared.condition.Probe.TheVariants.OnMessage}
use Rattle.msg_frames.proofs.{BeforeTurns.prepares, ElementsAndPairs.Cut, ElementsAndPairs.cut, HistoriesGrow.counts_more, SystemsStay.no_cycle_stays}
use Rattle.msg_frames.specs.{Frames.turn_order, declared.frame.Frame.Frame, declared.log.Outcome.TheVariants.Skipped}
use Rattle.msg_frames.specs.Prelude.{IsSoundState, State, after_turns_of, before_turns, frame, join_flags, outcome_of, reader_place, run}
use Rattle.msg_laws.proofs.{OneTurn.has_turn, ReadersTakeAll.job_takes}
use Rattle.msg_laws.proofs.OneTurn.{goes_from_turn, goes_to_turn, in_log, job_left, member_found, within_turn}
use Rattle.msg_laws.proofs.ReadersStayUpToDate.{Between, all_there, between, joined_by_turn, misses_none, past_frame}
use Rattle.msg_laws.specs.Prelude.{IsSkipped, IsUpToDate, IsWokenBy, NoWakeUpIsLost, NothingDrained, NothingUnread, ReadsAllIfWoken, WhoIsWokenStaysSo, WhoSleepsHasNothingUnread}
use Rattle.msg_order.proofs.Elements.{Contains-head}

-- ---- what is gone stays gone

module _ {V : Type 0} where
  -- none of the messages from p to c is present
  abbrev Gone : ℕ → ℕ → History (Record V) → Type 0
  Gone p c h = (n : ℕ) → p ≤ n → n < c → ¬ IsPresent h n

  was_present : (a b : History (Record V)) (n : ℕ) → GoesOn a b → n < count a → IsPresent b n → IsPresent a n
  was_present a b n goes lt there = elim (slice_get_cases a.entries n).1 [
    | inl got ↦
        let same = get_or_append_left a.entries goes.more got.0 n lt in
        (got.0, got.2, grind (arith, cases_Bool, nat_tests, get_or_from_slice_get, same, goes.entries, there.1, there.2, got.2))
    | inr past ↦ absurd (omega (arith, past.0, lt))
  ]

  still_gone : (p c : ℕ) (a b : History (Record V)) → GoesOn a b → c ≤ count a → Gone p c a → Gone p c b
  still_gone p c a b goes within gone n above lt there =
      gone n above lt (was_present a b n goes (omega (arith, within, lt)) there)

  -- ---- a job that waits for a message

  -- the one condition that a message of the type came
  abbrev message_came : ℕ → ℕ → List (Asked V)
  message_came t place = record { condition = record { nots = 0; probe = OnMessage t }; place = place } ∷ []

module _ {V : Type 0} {values : Values V} (t : ℕ) where
  module _ (j : Job V) (w : WorldState values) (c : ℕ) (is : j.conditions ≡ message_came t c) where
    slept : IsSound (w.histories t) → Gone (j.system.places t) c (w.histories t) → outcome_of (after_job j w).replies ≡ Skipped
        → Gone (j.system.places t) (count (w.histories t)) (w.histories t)
    slept sound gone skipped n above lt =
        let none : length (unread (w.histories t) c) ≡ 0 = grind (arith, cases_Bool, nat_tests, is, skipped) in
        elim (cases_lt n c) [
          | inl before ↦ gone n above before
          | inr after ↦
              let unread_too = length-unread (w.histories t) c in
              not_present (w.histories t) n sound (omega (arith, unread_too, none, after, lt))
        ]

-- ---- a frame

module _ {V : Type 0} {values : Values V} (f : Frame V) (s : State values) (i t : ℕ) (sound : IsSoundState s)
    (below : t < s.types) (has : IsTrue (has_joined (join_flags s) i)) (woken : IsWokenBy t i s) (earlier later : List ℕ)
    (is : turn_order (before_turns f.posts s) ≡ earlier ++ i ∷ later) where
  abbrev found : State values
  found = (after_turns_of earlier (before_turns f.posts s)).state

  abbrev u : State values
  u = (frame f s).state

  to_turn : GoesOn (s.world.histories t) (found.world.histories t)
  to_turn = goes_to_turn f s i earlier later is t sound below

  from_turn : GoesOn (found.world.histories t) (u.world.histories t)
  from_turn = goes_from_turn f s i earlier later is t sound below

  stood : found.members i ≡ s.members i
  stood = member_found f s i earlier later is ∙ grind (arith, false≢true, (prepares f.posts s).arrival i)

  waits : (found.members i).job.conditions ≡ message_came t woken.place
  waits = rw stood woken.condition

  gone : Gone (reader_place found i t) woken.place (found.world.histories t)
  gone = rw (reader_place, stood) (still_gone _ _ _ _ to_turn woken.within woken.behind)

  pub sleeps : IsSkipped i f s → NothingUnread i t found
  sleeps skipped = slept t (found.members i).job found.world woken.place waits to_turn.sound gone
      (in_log f s i earlier later is (λ turn. turn.system ≡ i → turn.outcome ≡ Skipped) skipped refl)

  module _ (reads : ReadsAllIfWoken i t f s) where
    -- what its turn did, told of the state after the frame
    took_or_slept : (count (found.world.histories t) ≤ reader_place u i t) ⊎ ((reader_place u i t ≡ reader_place s i t)
        × Gone (reader_place s i t) (count (found.world.histories t)) (found.world.histories t))
    took_or_slept =
        let j : Job V = (found.members i).job in
        let log = in_log f s i earlier later is (λ turn. turn.system ≡ i → turn.outcome ≡ Skipped) in
        let left = job_left f s i earlier later is in
        rw (reader_place, left, ← stood) (elim (cases_Bool (all_hold j.conditions found.world)) [
          | inl holds ↦
              let ran : outcome_of (after_job j found.world).replies ≢ Skipped = grind (arith, holds) in
              inl (job_takes t j found.world to_turn.sound (within_turn f s i earlier later is t sound below) ran
              (rw (← left) (reads (λ skipped. ran (log skipped refl)))))
          | inr fails ↦
              inr (grind (arith, fails), slept t j found.world woken.place waits to_turn.sound gone (grind (arith, fails)))
        ])

    stays_woken : IsWokenBy t i u
    stays_woken = record {
      place = count (found.world.histories t);
      condition = rw (job_left f s i earlier later is) (grind (arith, cases_Bool, waits));
      within = counts_more _ _ from_turn;
      behind = λ n above lt there. elim took_or_slept [
        | inl took ↦ absurd (omega (arith, took, above, lt))
        | inr asleep ↦ still_gone _ _ _ _ from_turn (omega arith) asleep.1 n (omega (arith, asleep.0, above)) lt there
      ];
    }

    stays_up_to_date : IsUpToDate s i t → NothingDrained t s u → IsUpToDate u i t
    stays_up_to_date up drained =
        let old = counts_more _ _ to_turn in
        past_frame f s i t sound below (elim took_or_slept [
          | inl took ↦ omega (arith, took, old)
          | inr asleep ↦ elim (cases_lt (reader_place s i t) (count (found.world.histories t))) [
            | inl lt ↦ absurd (asleep.1 (reader_place s i t) (omega arith) lt
                (all_there f s i t sound below (found.world.histories t) up drained from_turn (reader_place s i t) (omega arith) lt))
            | inr past ↦ omega (arith, past, asleep.0, old)
          ]
        ]) drained

-- ---- a run

module _ {V : Type 0} {values : Values V} where
  -- one that has joined has its turn
  turn_cut : (f : Frame V) (s : State values) (i : ℕ) → IsSoundState s → IsTrue (has_joined (join_flags s) i)
      → Cut (turn_order (before_turns f.posts s)) i
  turn_cut f s i sound has =
      let prep = prepares f.posts s in
      cut _ _ (has_turn (before_turns f.posts s) i (no_cycle_stays s _ prep.same sound.no_cycle)
      (grind (arith, false≢true, prep.arrival i)))

  pub who_sleeps : WhoSleepsHasNothingUnread values
  who_sleeps f s i t sound below has woken skipped earlier later is = sleeps f s i t sound below has woken earlier later is skipped

  pub woken_stays : WhoIsWokenStaysSo values
  woken_stays f s i t sound below has woken reads =
      let c = turn_cut f s i sound has in
      stays_woken f s i t sound below has woken c.before c.rest c.is reads

  pub no_wake_up : NoWakeUpIsLost values
  no_wake_up [] s i t sound below has woken up reads drained = (All-nil (λ e. e.stretch.missed ≡ 0), woken, up)
  no_wake_up (f ∷ fs) s i t sound below has woken up reads drained =
      let m : State values = (frame f s).state in
      let c = turn_cut f s i sound has in
      let mid : Between t s m (run fs m).state = between f fs s t sound below drained in
      let at = Contains-append_right c.before (i ∷ c.rest) i (Contains-head i c.rest) in
      let rest = no_wake_up fs m i t mid.sound mid.below (joined_by_turn f s i t sound below (rw (c.is) at))
      (stays_woken f s i t sound below has woken c.before c.rest c.is reads.0)
      (stays_up_to_date f s i t sound below has woken c.before c.rest c.is reads.0 up mid.first) reads.1 mid.rest in
      (misses_none f s i t sound below has up mid.first fs rest.0, rest.1, rest.2)
