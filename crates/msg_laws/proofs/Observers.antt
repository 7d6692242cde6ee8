-- Frames with an observer and without it.
use Rattle.std.proofs.Common.{All, List, [], ap, arith, filter, get_or, inl, inr, length, nat_lt, not, refl, subst, suc, sym, ℕ, ◌++◌, ◌<◌, ◌==◌, ◌∙◌, ◌∷◌, ◌≡◌, ◌≢◌}
use Rattle.std.proofs.lemmas.{Bool.cases_Bool, Bool.cases_eq, Bool.cases_lt, Bool.eq-eqb, Bool.lt-ltb, Bool.ne_eqb, Bool.Decides.nat_tests, List.Elements.All-contains_itself, List.Elements.All-head, List.Elements.All-tail, List.get_or_append_left, List.length_push, List.FromFn.length-map-range_with_len}
use Rattle.std.proofs.Math.Seq.{get_or-append_seam}
use Rattle.msg_world.specs.Prelude.{Values, WorldState, after_update}
use Rattle.msg_order.specs.Prelude.{has_joined}
use Rattle.msg_system.proofs.FootprintsHold.{job_footprint}
use Rattle.msg_system.specs.Prelude.{AfterJob}
use Rattle.msg_frames.specs.{declared.frame.Frame.Frame, declared.log.Turn.Turn}
use Rattle.msg_frames.specs.FirstState.{before_joining, default_place, default_system}
use Rattle.msg_frames.specs.Frames.{last_joined, settled_order, turn_order}
use Rattle.msg_frames.specs.Prelude.{SameSystems, State, after_turn_of, after_turns_of, are_in_conflict, before_turns, counts, frame, join_flags, logged_turn, post_replies, turn_of, with_joining}
use Rattle.msg_frames.proofs.{StatesStaySound.turn_below, SystemsStay.before_keeps, SystemsStay.frame_keeps, SystemsStay.joined_is, SystemsStay.joining_on_keeps, SystemsStay.one_turn_keeps, SystemsStay.turns_keep_systems, TurnsCommute.same_world}
use Rattle.msg_laws.specs.Prelude.{IsWithoutObserver, ObserversDisturbNobody, ObserversMayBeAdded, rules_without, without_turns_of}
use Rattle.msg_laws.proofs.ObserversOrder.{others, turns_cut}

module _ {V : Type 0} {values : Values V} where
  -- if both keep their systems, and the others and the world change alike, one is still without the observer
  still : (s t u v : State values) → IsWithoutObserver s t → SameSystems s u → SameSystems t v
      → ((i : ℕ) → i < t.systems → v.members i ≡ u.members i) → v.world ≡ u.world → v.frames ≡ u.frames
      → IsWithoutObserver u v
  still s t u v w su tv others world frames = record {
    last = su.systems ∙ w.last ∙ ap suc (sym tv.systems);
    others = λ i lt. others i (rw tv.systems at lt);
    quiet = λ p. rw (tv.systems, (su.members t.systems).needs) (w.quiet p);
    behind = rw (tv.systems, su.rules) (w.behind);
    rules = rw (tv.systems, tv.rules, su.rules) (w.rules);
    types = tv.types ∙ w.types ∙ sym su.types;
    resources = tv.resources ∙ w.resources ∙ sym su.resources;
    world = world;
    frames = frames;
  }

  -- ---- before the turns

  joining_on : (k : ℕ) (s t : State values) → IsWithoutObserver s t
      → IsWithoutObserver (with_joining k s) (with_joining k t)
  joining_on k s t w =
      let counted : counts t ≡ counts s = rw (w.types, w.world) refl in
      still s t _ _ w (joining_on_keeps k s) (joining_on_keeps k t)
      (λ i lt. rw (lt-ltb i t.systems lt, lt-ltb i s.systems (omega (arith, w.last, lt)), w.others i lt, counted) refl)
      w.world w.frames

  before : (posts : List (ℕ × V)) (s t : State values) → IsWithoutObserver s t
      → IsWithoutObserver (before_turns posts s) (before_turns posts t)
  before posts s t w =
      let joined = joining_on (suc s.frames) s t w in
      still s t _ _ w (before_keeps posts s) (before_keeps posts t)
      (λ i lt. rw (w.frames) (elim (cases_Bool (nat_lt (last_joined s) (suc s.frames))) [
        | inl h ↦ rw h (joined.others i lt)
        | inr h ↦ rw h (w.others i lt)
      ]))
      (rw w.world refl) (ap suc w.frames)

  -- ---- the turns

  observer_turn : (i : ℕ) (s t : State values) → i ≡ t.systems → IsWithoutObserver s t
      → IsWithoutObserver (after_turn_of i s) t
  observer_turn i s t is w =
      let kept = (job_footprint (s.members i).job).kept s.world in
      let idle = same_world (turn_of s i).world s.world (λ p. kept p (rw is (w.quiet p))) in
      still s t _ t w (one_turn_keeps i s) (turns_keep_systems [] t)
      (λ k lt. rw (ne_eqb k i (omega (arith, is, lt))) (w.others k lt)) (w.world ∙ sym idle) w.frames

  other_turn : (i : ℕ) (s t : State values) → i < t.systems → IsWithoutObserver s t
      → IsWithoutObserver (after_turn_of i s) (after_turn_of i t) × (logged_turn s i ≡ logged_turn t i)
  other_turn i s t lt w =
      let same : turn_of t i ≡ turn_of s i = rw (w.others i lt, w.world) refl in (
        still s t _ _ w (one_turn_keeps i s) (one_turn_keeps i t)
            (λ k below. elim (cases_Bool (k == i)) [
              | inl h ↦ rw (h, same, w.others i lt) refl
              | inr h ↦ rw h (w.others k below)
            ])
            (ap (λ (e : AfterJob values). e.world) same) w.frames,
        rw same refl,
      )

  turns_without : (order : List ℕ) (s t : State values) → IsWithoutObserver s t → All (λ i. i < suc t.systems) order
      → IsWithoutObserver (after_turns_of order s).state (after_turns_of (others t.systems order) t).state
      × (filter (λ (turn : Turn V). not (turn.system == t.systems)) (after_turns_of order s).turns
      ≡ (after_turns_of (others t.systems order) t).turns)
  turns_without [] s t w below = (w, refl)
  turns_without (i ∷ is) s t w below =
      let later = All-tail (λ (k : ℕ). k < suc t.systems) i is below in
      elim (cases_eq i t.systems) [
        | inl e ↦ rw (eq-eqb i t.systems e) (turns_without is (after_turn_of i s) t (observer_turn i s t e w) later)
        | inr ne ↦
            let lt : i < t.systems = omega (arith, ne, All-head (λ (k : ℕ). k < suc t.systems) i is below) in
            let here = other_turn i s t lt w in
            let then = turns_without is (after_turn_of i s) (after_turn_of i t) here.0 later in
            rw (ne_eqb i t.systems ne) (then.0, rw (here.1, then.1) refl)
      ]

  -- ---- their order

  same_joined : (s t : State values) → IsWithoutObserver s t → (i : ℕ) → i ≢ t.systems
      → has_joined (join_flags t) i ≡ has_joined (join_flags s) i
  same_joined s t w i ne =
      grind (arith, cases_lt i t.systems, joined_is s i, joined_is t i, nat_tests, w.last, w.frames, w.others i)

  order_without : (s t : State values) → IsWithoutObserver s t → others t.systems (turn_order s) ≡ turn_order t
  unfolding turn_order settled_order
  order_without s t w =
      rw w.rules (turns_cut t.systems (are_in_conflict s) (are_in_conflict t) (join_flags s) (join_flags t)
      (length-map-range_with_len _ 0 s.systems ∙ w.last) (length-map-range_with_len _ 0 t.systems)
      (same_joined s t w) (λ i j li lj. rw (w.others i li, w.others j lj) refl) s.rules w.behind)

  -- ---- frames

  frame_without : (f : Frame V) (s t : State values) → IsWithoutObserver s t
      → IsWithoutObserver (frame f s).state (frame f t).state
      × (without_turns_of t.systems (frame f s).log ≡ (frame f t).log)
  frame_without f s t w =
      let b : State values = before_turns f.posts s in
      let c : State values = before_turns f.posts t in
      let ready : IsWithoutObserver b c = before f.posts s t w in
      let turns = turns_without (turn_order b) b c ready (λ k d lt.
      omega (arith, ready.last, turn_below b _ (All-contains_itself (turn_order b) k d lt))) in
      let done = rw (order_without b c ready) at turns in
      let posts = ap (λ (v : WorldState values). post_replies f.posts (after_update v)) (sym w.world) in
      let logged = subst (λ n. filter (λ (turn : Turn V). not (turn.system == n))
      (after_turns_of (turn_order b) b).turns ≡ (after_turns_of (turn_order c) c).turns)
      (before_keeps f.posts t).systems done.1 in
      (done.0, λ k. record { posts = posts k; turns = logged k })

  pub observers_disturb_nobody : ObserversDisturbNobody values
  observers_disturb_nobody [] s t w = (w, refl)
  observers_disturb_nobody (f ∷ fs) s t w =
      let here = frame_without f s t w in
      let then = observers_disturb_nobody fs (frame f s).state (frame f t).state here.0 in
      let logged = rw ((frame_keeps (turn_order (before_turns f.posts t)) f t).systems) at then.1 in
      (then.0, rw (here.1, logged) refl)

  -- ---- a first state

  pub observers_may_be_added : ObserversMayBeAdded values
  observers_may_be_added systems observer places place rules types resources world same quiet behind =
      let n : ℕ = length systems in
      let s : State values = before_joining (systems ++ observer ∷ []) (places ++ place ∷ []) rules types resources world in
      let t : State values = before_joining systems places (rules_without n rules) types resources world in
      let system : get_or (systems ++ observer ∷ []) n default_system ≡ observer = get_or-append_seam systems observer [] default_system in
      joining_on 1 s t (record {
        last = omega (arith, length_push systems observer);
        others = λ i lt.
            rw (
              get_or_append_left systems (observer ∷ []) default_system i lt,
              get_or_append_left places (place ∷ []) default_place i (omega (arith, same, lt)),
            ) refl;
        quiet = rw system quiet;
        behind = behind;
        rules = refl;
        types = refl;
        resources = refl;
        world = refl;
        frames = refl;
      })
