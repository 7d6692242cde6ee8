-- A system each turn of which begins by reading all of a type reads all when it runs.
use Rattle.std.proofs.Common.{All, Bool, IsTrue, List, None, Option, Some, [], arith, inl, inr, length, refl, slice_get, subst, suc, sym, zero, ℕ, ◌<◌, ◌∙◌, ◌∷◌, ◌≡◌, ◌≢◌, ◌≤◌, ◌⊎◌}
use Rattle.msg_order.specs.Prelude.{has_joined}
use Rattle.msg_frames.proofs.ElementsAndPairs.{Cut, cut}
use Rattle.std.proofs.lemmas.{Bool.cases_Bool, Bool.cases_eq, Bool.cases_lt, Bool.false≢true, List.length-append, List.Elements.All-cons, List.Elements.All-nil}
use Rattle.std.proofs.lemmas.Option.{get_or_from_slice_get, slice_get_cases, slice_get_within}
use Rattle.std.specs.List.{list_any}
use Rattle.msg_world.specs.Prelude.{Values, WorldState}
use Rattle.msg_system.specs.{Prelude.AfterProgram, Prelude.BeginsTurnsWith, Prelude.Job, Prelude.Meaning, Prelude.after_at_most, Prelude.after_job, Prelude.after_op, Prelude.all_hold, Prelude.cut_after, Prelude.keeps_to, Prelude.next_op, Prelude.one_more, Prelude.ops_answered, Prelude.turn, declared.limits.TheConstants.MAX_OPS, declared.op.Op.Op, declared.reply.Reply.Reply}
use Rattle.msg_system.proofs.Turns.{next_of_ops}
use Rattle.msg_frames.proofs.BeforeTurns.{Prepares, comes, prepares, stood, waits}
use Rattle.msg_frames.proofs.{ReaderOverTurns.one_member, SystemsStay.no_cycle_stays}
use Rattle.msg_frames.specs.{Frames.turn_order, Prelude.State, Prelude.after_turn_of, Prelude.after_turns_of, Prelude.before_turns, Prelude.counts, Prelude.frame, Prelude.job_begun, Prelude.join_flags, Prelude.logged_turn, declared.frame.Frame.Frame, declared.log.Outcome.TheVariants.Skipped, declared.log.Turn.Turn}
use Rattle.msg_laws.proofs.OneTurn.{has_turn, in_log}
use Rattle.msg_laws.specs.Prelude.{WhoBeginsReadingAll, WhoBeginsReadingAllWhenWoken, reads_all}

-- ---- one turn

-- ops that are asked for first are among those that many replies answer
asked_first : {V : Type 0} (test : Op V → Bool) (ops : List (Op V)) (rs : List (Reply V)) (next : List (Reply V) → Option (Op V))
    → length ops ≤ length rs → ((replies : List (Reply V)) → length replies < length ops → next replies ≡ slice_get ops (length replies))
    → IsTrue (list_any test ops) → IsTrue (list_any test (ops_answered next rs))
asked_first test [] rs next many asks some = absurd (false≢true some)
asked_first test (o ∷ ops) [] next many asks some = absurd (omega (arith, many))
asked_first test (o ∷ ops) (r ∷ rs) next many asks some =
    let first : next [] ≡ Some o = asks [] (omega arith) in
    let rest = asked_first test ops rs (λ replies. next (r ∷ replies)) (omega (arith, many)) (λ replies lt. asks (r ∷ replies) (omega (arith, lt))) in
    rw first (grind (arith, cases_Bool, rest, some))

module _ {V : Type 0} (ops : List (Op V)) (m : Meaning V) (begins : BeginsTurnsWith ops m) where
  kept_at : (k : ℕ) (op : Op V) → slice_get ops k ≡ Some op → IsTrue (keeps_to m.needs op)
  kept_at k op is =
      subst (λ o. IsTrue (keeps_to m.needs o)) (get_or_from_slice_get ops k op op is) (begins.kept k op (slice_get_within ops k op is))

  asks : (replies : List (Reply V)) → length replies < length ops → next_op m replies ≡ slice_get ops (length replies)
  asks replies lt =
      rw (begins.each [] replies lt) (next_of_ops m.needs ops (length replies) begins.few (λ op is. grind (arith, cases_Bool, kept_at (length replies) op is)))

module _ {V : Type 0} {values : Values V} (ops : List (Op V)) (m : Meaning V) (begins : BeginsTurnsWith ops m) (w : WorldState values) where
  no_shorter : (o : Option (Op V)) (far : AfterProgram values) → length far.replies ≤ length (one_more o m.writer far).replies
  no_shorter None far = omega arith
  no_shorter (Some op) far = omega (arith, length-append far.replies ((after_op op m.writer far.places far.world).reply ∷ []))

  one_longer : (o : Option (Op V)) (op : Op V) (far : AfterProgram values) → o ≡ Some op
      → suc (length far.replies) ≤ length (one_more o m.writer far).replies
  one_longer o op far is = rw is (omega (arith, length-append far.replies ((after_op op m.writer far.places far.world).reply ∷ [])))

  so_long : (n : ℕ) → n ≤ length ops → n ≤ length (after_at_most n (next_op m) m.writer m.places w).replies
  so_long zero le = omega arith
  so_long (suc n) le =
      let far : AfterProgram values = after_at_most n (next_op m) m.writer m.places w in
      let had : n ≤ length far.replies = so_long n (omega (arith, le)) in
      elim (cases_lt (length far.replies) (length ops)) [
        | inl lt ↦ elim (slice_get_cases ops (length far.replies)).1 [
          | inl found ↦ omega (arith, had, one_longer (next_op m far.replies) found.0 far (asks ops m begins far.replies lt ∙ found.2))
          | inr past ↦ absurd (omega (arith, lt, past.0))
        ]
        | inr ge ↦ omega (arith, le, ge, no_shorter (next_op m far.replies) far)
      ]

  all_long : (n : ℕ) → length ops ≤ n → length ops ≤ length (after_at_most n (next_op m) m.writer m.places w).replies
  all_long zero le = omega (arith, le)
  all_long (suc n) le = elim (cases_lt n (length ops)) [
    | inl lt ↦ omega (arith, lt, le, so_long (suc n) (omega (arith, lt)))
    | inr ge ↦
        let far : AfterProgram values = after_at_most n (next_op m) m.writer m.places w in
        omega (arith, all_long n ge, no_shorter (next_op m far.replies) far)
  ]

  pub turn_reads : (test : Op V → Bool) → IsTrue (list_any test ops) → IsTrue (list_any test (ops_answered (next_op m) (turn m w).replies))
  unfolding turn
  turn_reads test some =
      let far : AfterProgram values = after_at_most MAX_OPS (next_op m) m.writer m.places w in
      let long : length ops ≤ length far.replies = all_long MAX_OPS begins.few in
      asked_first test ops _ (next_op m)
      (omega (arith, long, length-append far.replies (cut_after (m.rule []) far.replies))) (asks ops m begins) some

-- ---- what turns keep of a job

-- What a job keeps in its turns a member's job has after turns; and after a frame, if it has it as it begins.
module _ {V : Type 0} {values : Values V} (P : Job V → Type 0) (i : ℕ)
    (kept : (j : Job V) (w : WorldState values) → P j → P (after_job j w).job) where
  turn_keeps : (j : ℕ) (s : State values) → P (s.members i).job → P ((after_turn_of j s).members i).job
  turn_keeps j s had = one_member (λ m. P m.job) j i s (λ e. kept (s.members i).job s.world had) (λ ne. had)

  turns_keep : (order : List ℕ) (s : State values) → P (s.members i).job → P ((after_turns_of order s).state.members i).job
  turns_keep [] s had = had
  turns_keep (j ∷ js) s had = turns_keep js (after_turn_of j s) (turn_keeps j s had)

  module _ (begun : (counted : List ℕ) (j : Job V) → P j → P (job_begun counted j)) (f : Frame V) (s : State values)
      (had : P (s.members i).job) where
    begins_so : P ((before_turns f.posts s).members i).job
    begins_so = elim ((prepares f.posts s).arrival i) [
      | stood was now same ↦ rw same had
      | comes was now new ↦ rw new (begun (counts s) (s.members i).job had)
      | waits was now same ↦ rw same had
    ]

    pub frame_keeps : P ((frame f s).state.members i).job
    frame_keeps = turns_keep (turn_order (before_turns f.posts s)) (before_turns f.posts s) begins_so

-- ---- turns of a frame

module _ {V : Type 0} where
  abbrev Begins : List (Op V) → Job V → Type 0
  Begins ops j = BeginsTurnsWith ops j.system

  abbrev HasNoConditions : Job V → Type 0
  HasNoConditions j = j.conditions ≡ []

  abbrev SkippedIf : ℕ → Turn V → Type 0
  SkippedIf i turn = turn.system ≡ i → turn.outcome ≡ Skipped

  abbrev RanIf : ℕ → Turn V → Type 0
  RanIf i turn = turn.system ≡ i → turn.outcome ≢ Skipped

  abbrev HasAsked : (Op V → Bool) → Job V → Type 0
  HasAsked test j = IsTrue (list_any test j.system.last)

  joins_none : (counted : List ℕ) (j : Job V) → HasNoConditions j → HasNoConditions (job_begun counted j)
  joins_none counted j none = grind (arith, none)

  joins_so : (ops : List (Op V)) (counted : List ℕ) (j : Job V) → Begins ops j → Begins ops (job_begun counted j)
  joins_so ops counted j begins = record { few = begins.few; kept = begins.kept; each = begins.each }

module _ {V : Type 0} {values : Values V} where
  keeps_none : (j : Job V) (w : WorldState values) → HasNoConditions j → HasNoConditions (after_job j w).job
  keeps_none j w none = grind (arith, cases_Bool, none)

  -- who has no conditions isn't skipped
  turns_ran : (i : ℕ) (order : List ℕ) (s : State values) → HasNoConditions (s.members i).job → All (RanIf i) (after_turns_of order s).turns
  turns_ran i [] s none = All-nil (RanIf i)
  turns_ran i (j ∷ js) s none =
      let next = turn_keeps HasNoConditions i keeps_none j s none in
      grind (arith, All-cons, none, turns_ran i js (after_turn_of j s) next)

module _ {V : Type 0} {values : Values V} (ops : List (Op V)) (test : Op V → Bool) (some : IsTrue (list_any test ops)) where
  job_begins : (j : Job V) (w : WorldState values) → Begins ops j → Begins ops (after_job j w).job
  job_begins j w begins = elim (cases_Bool (all_hold j.conditions w)) [
    | inl ran ↦ rw ran (record {
      few = begins.few;
      kept = begins.kept;
      each = λ turns replies lt. begins.each ((turn j.system w).replies ∷ turns) replies lt;
    })
    | inr skipped ↦ rw skipped begins
  ]

  job_asks : (j : Job V) (w : WorldState values) → Begins ops j → IsTrue (all_hold j.conditions w) → HasAsked test (after_job j w).job
  job_asks j w begins ran = rw ran (turn_reads ops j.system begins w test some)

  job_keeps : (j : Job V) (w : WorldState values) → Begins ops j × HasAsked test j → Begins ops (after_job j w).job × HasAsked test (after_job j w).job
  job_keeps j w had = (
    job_begins j w had.0,
    elim (cases_Bool (all_hold j.conditions w)) [
      | inl ran ↦ job_asks j w had.0 ran
      | inr skipped ↦ rw skipped had.1
    ],
  )

  module _ (i : ℕ) where
    -- it was skipped in all of these turns, or it has asked
    skipped_or_asked : (order : List ℕ) (s : State values) → Begins ops (s.members i).job
        → All (SkippedIf i) (after_turns_of order s).turns ⊎ HasAsked test ((after_turns_of order s).state.members i).job
    skipped_or_asked [] s begins = inl (All-nil (SkippedIf i))
    skipped_or_asked (j ∷ js) s begins =
        let next : State values = after_turn_of j s in
        let begins_next = turn_keeps (Begins ops) i job_begins j s begins in
        let rest = skipped_or_asked js next begins_next in
        elim (cases_eq j i) [
          | inl e ↦ elim (cases_Bool (all_hold (s.members i).job.conditions s.world)) [
            | inl ran ↦
                let asked : HasAsked test (next.members i).job =
                one_member (λ m. HasAsked test m.job) j i s (λ same. job_asks (s.members i).job s.world begins ran) (λ ne. absurd (ne (sym e))) in
                inr (turns_keep (λ job. Begins ops job × HasAsked test job) i job_keeps js next (begins_next, asked)).1
            | inr skipped ↦ elim rest [
              | inl all ↦ inl (All-cons (SkippedIf i) (logged_turn s j) (after_turns_of js next).turns (λ same. grind (arith, e, skipped, cases_Bool)) all)
              | inr asked ↦ inr asked
            ]
          ]
          | inr ne ↦ elim rest [
            | inl all ↦ inl (All-cons (SkippedIf i) (logged_turn s j) (after_turns_of js next).turns (λ same. absurd (ne same)) all)
            | inr asked ↦ inr asked
          ]
        ]

    frame_begins : (f : Frame V) (s : State values) → Begins ops (s.members i).job → Begins ops ((frame f s).state.members i).job
    frame_begins f s begins = frame_keeps (Begins ops) i job_begins (joins_so ops) f s begins

    frame_asks : (f : Frame V) (s : State values) → Begins ops (s.members i).job
        → All (SkippedIf i) (frame f s).log.turns ⊎ HasAsked test ((frame f s).state.members i).job
    frame_asks f s begins =
        let b : State values = before_turns f.posts s in
        skipped_or_asked (turn_order b) b (begins_so (Begins ops) i job_begins (joins_so ops) f s begins)

-- ---- laws

module _ {V : Type 0} {values : Values V} where
  pub begins_when_woken : WhoBeginsReadingAllWhenWoken values
  begins_when_woken [] s i t ops begins reads = tt
  begins_when_woken (f ∷ fs) s i t ops begins reads = (
    λ woken. elim (frame_asks ops (reads_all t) reads i f s begins) [
      | inl all ↦ absurd (woken all)
      | inr asked ↦ asked
    ],
    begins_when_woken fs (frame f s).state i t ops (frame_begins ops (reads_all t) reads i f s begins) reads,
  )

  pub begins_reading_all : WhoBeginsReadingAll values
  begins_reading_all f s i t ops free has begins none reads =
      let b : State values = before_turns f.posts s in
      let prep : Prepares s b = prepares f.posts s in
      let begun : IsTrue (has_joined (join_flags b) i) = grind (arith, false≢true, prep.arrival i) in
      let ran = turns_ran i (turn_order b) b (begins_so HasNoConditions i keeps_none joins_none f s none) in
      let at = has_turn b i (no_cycle_stays s b prep.same free) begun in
      let parts : Cut (turn_order b) i = cut _ _ at in
      let in_turn = in_log f s i parts.before parts.rest parts.is in (
        record {
          has_turn = at;
          ran = ran;
          read_all = elim (frame_asks ops (reads_all t) reads i f s begins) [
            | inl all ↦ absurd (in_turn (RanIf i) ran refl (in_turn (SkippedIf i) all refl))
            | inr asked ↦ asked
          ];
        },
        frame_begins ops (reads_all t) reads i f s begins,
        frame_keeps HasNoConditions i keeps_none joins_none f s none,
      )
