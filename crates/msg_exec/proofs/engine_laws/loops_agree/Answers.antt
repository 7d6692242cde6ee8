use Rattle.std.proofs.Common.{◌≡◌, ◌⊎◌, ℕ, ◌<◌, ◌-◌, List, [], ◌∷◌, length, Option, Some, None, ap, arith, inl, inr, refl, sym, ◌∙◌}
use Rattle.std.proofs.lemmas.Option.{none-some, same_Some}
use Rattle.msg_frames.specs.{declared.frame.Frame.Frame, declared.log.Log.Log}
use Rattle.msg_frames.specs.Prelude.{State, frame, run}
use Rattle.msg_exec.specs.Hosts.{HostHasGiven, IsSettled, last_log}
use Rattle.msg_world.specs.Prelude.{Values}
use Rattle.msg_exec.proofs.engine_laws.loops_agree.Goals as goal

module _ {V H : Type 0} (gives : H → Option (Log V) → Option (Frame V) → H → Type 0) where
  -- how a loop of so many frames at most ends after these
  abbrev Ends : ℕ → Option (Log V) → List (Frame V) → List (Log V) → H → H → Type 0
  Ends most log frames logs now new = ((length frames ≡ most) × (new ≡ now))
      ⊎ ((length frames < most) × gives now (last_log log logs) None new)

  -- so it does after the first of them
  ends_later : (most : ℕ) (log : Option (Log V)) (f : Frame V) (frames : List (Frame V)) (l : Log V) (logs : List (Log V)) (now new : H)
      → Ends most log (f ∷ frames) (l ∷ logs) now new → Ends (most - 1) (Some l) frames logs now new
  ends_later most log f frames l logs now new (inl all) = inl (omega (arith, all.0), all.1)
  ends_later most log f frames l logs now new (inr more) = inr (omega (arith, more.0), more.1)

module _ {V H : Type 0} (gives : H → Option (Log V) → Option (Frame V) → H → Type 0)
    (settled : IsSettled gives) where
  -- one that ends at once ends as the other does, which doesn't go on
  ends_alike : (most : ℕ) (log : Option (Log V)) (host new then : H) → Ends gives most log [] [] host new
      → Ends gives most log [] [] host then → new ≡ then
  ends_alike most log host new then x y = grind (arith, x, y, settled host log None None new then)

  ends_both : (most : ℕ) (log : Option (Log V)) (host new now later then : H) (f : Frame V) (frames : List (Frame V)) (logs : List (Log V))
      → Ends gives most log [] [] host new → gives host log (Some f) later → Ends gives most log (f ∷ frames) logs now then → ⊥
  ends_both most log host new now later then f frames logs x gave y =
      grind (arith, x, y, none-some f, settled host log None (Some f) new later)

module _ {V H : Type 0} {values : Values V} (gives : H → Option (Log V) → Option (Frame V) → H → Type 0)
    (settled : IsSettled gives) where
  alike : (most : ℕ) (log : Option (Log V)) (host : H) (s : State values) (fs gs : List (Frame V)) (now end new then : H)
      → HostHasGiven gives log host fs (run fs s).logs now → HostHasGiven gives log host gs (run gs s).logs end
      → Ends gives most log fs (run fs s).logs now new → Ends gives most log gs (run gs s).logs end then
      → (fs ≡ gs) × (new ≡ then)
  alike most log host s [] [] now end new then a b x y =
      (refl, ends_alike gives settled most log host new then (rw a at x) (rw b at y))
  alike most log host s [] (g ∷ gs) now end new then a b x y =
      absurd (ends_both gives settled most log host new end b.0 then g gs (run (g ∷ gs) s).logs (rw a at x) b.1 y)
  alike most log host s (f ∷ fs) [] now end new then a b x y =
      absurd (ends_both gives settled most log host then now a.0 new f fs (run (f ∷ fs) s).logs (rw b at y) a.1 x)
  alike most log host s (f ∷ fs) (g ∷ gs) now end new then a b x y =
      let both = settled host log (Some f) (Some g) a.0 b.0 a.1 b.1 in
      let same : f ≡ g = same_Some f g both.0 in
      let rest = alike (most - 1) (Some (frame f s).log) a.0 (frame f s).state fs gs now end new then a.2
      (rw (← same, ← both.1) at b.2) (ends_later gives most log f fs (frame f s).log (run fs (frame f s).state).logs now new x)
      (rw (← same) at (ends_later gives most log g gs (frame g s).log (run gs (frame g s).state).logs end then y)) in
      (rw (same, rest.0) refl, rest.1)

pub returns : goal.returns
returns g c settled most host new then a b e f s stands also one other =
    let told = (one.ran.ran s stands).appended in
    let too = (other.ran.ran s also).appended in
    let same = alike g.H.Host.gives settled most None host s one.ran.frames other.ran.frames one.now other.now new then
    (rw told at one.ran.given) (rw too at other.ran.given) (rw told at one.ended) (rw too at other.ended) in
    (same.0, told ∙ ap (λ fs. (run fs s).logs) same.0 ∙ sym too, same.1)
