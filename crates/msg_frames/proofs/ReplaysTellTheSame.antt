-- Logs that tell the same tell each system the same.
use Rattle.std.proofs.Common.{All, AllPairs, Bool, Contains, IsPermutation, List, [], arith, eqb, false, flat_map, if◌then◌else◌, inl, inr, map, refl, suc, ℕ, ◌==◌, ◌∷◌, ◌≡◌, ◌≢◌}
use Rattle.std.proofs.lemmas.{List.Folds.list_any_none, Map.Keys.IsDistinct-IsPermutation}
use Rattle.std.proofs.lemmas.Bool.{cases_Bool, eqb-true}
use Rattle.std.proofs.lemmas.Bool.Decides.{Decides-eqb, eqb_tells}
use Rattle.std.proofs.lemmas.List.{append-nil, get_or-map, length-map}
use Rattle.std.proofs.lemmas.List.Sorted.{Contains-permutation, IsPermutation-map, IsPermutation-sym, list_any-IsPermutation}
use Rattle.std.proofs.lemmas.Map.Made.{AllPairs-from_IsDistinct, IsDistinct-from_AllPairs}
use Rattle.msg_frames.specs.{Frames.turn_order, Prelude.Frame, Prelude.Log, Prelude.ReplaysTellTheSame, Prelude.State, Prelude.TellsTheSame, Prelude.Turn, Prelude.before_turns, Prelude.frame, Prelude.replies_of}
use Rattle.msg_frames.proofs.{ElementsAndPairs.pairs_tail, FramesInOrder.in_that_order, ReaderOverTurns.answers_among, StatesStaySound.has_one_turn}
use Rattle.msg_order.proofs.Elements.{Contains-cases, Contains-list_any, not_in_none}
use Rattle.std.specs.List.{list_any}
use Rattle.msg_world.specs.Prelude.{Values}

-- ---- what is told under one key, in a list in which each key stands once

module _ {X Y : Type 0} (key : X → ℕ) (f : X → List Y) (i : ℕ) where
  abbrev own : X → List Y
  own x = if key x == i then f x else []

  abbrev test : X → Bool
  test x = key x == i

  none_told : (xs : List X) → list_any test xs ≡ false → flat_map own xs ≡ []
  none_told [] none = refl
  none_told (x ∷ xs) none = grind (arith, cases_Bool, none_told xs)

  one_told : (xs : List X) → AllPairs (λ a b. key a ≢ key b) xs → (x : X) → Contains xs x → key x ≡ i
      → flat_map own xs ≡ f x
  one_told [] once x c e = absurd (not_in_none x c)
  one_told (y ∷ ys) once x c e = elim (Contains-cases y ys x c) [
    | inl same ↦
        let others : All (λ z. test z ≡ false) ys = λ k d lt. grind (arith, eqb_tells, same, once 0 (suc k) d) in
        grind (arith, append-nil, eqb_tells, none_told ys (list_any_none test ys others), same)
    | inr later ↦
        let rest = one_told ys (pairs_tail (λ a b. key a ≢ key b) y ys once) x later e in
        grind (arith, eqb_tells, later, once 0 (suc later.0) x, rest)
  ]

  keys_once : (xs : List X) → AllPairs (λ a b. a ≢ b) (map key xs) → AllPairs (λ a b. key a ≢ key b) xs
  keys_once xs once j k d lt l e = once j k (key d) lt (omega (arith, length-map xs key, l)) (grind (arith, get_or-map))

  told_alike : (xs ys : List X) → IsPermutation xs ys → AllPairs (λ a b. a ≢ b) (map key xs)
      → AllPairs (λ a b. a ≢ b) (map key ys) → flat_map own xs ≡ flat_map own ys
  told_alike xs ys moved once once' =
      let some = Contains-list_any test xs in
      let one = one_told xs (keys_once xs once) in
      let other = one_told ys (keys_once ys once') in
      let moves = λ (x : X). Contains-permutation xs ys x moved in
      let same = list_any-IsPermutation test xs ys moved in
      grind (arith, cases_Bool (list_any test xs), some, one, other, moves, same, none_told, eqb-true)

-- numbers that differ stay so when they change places
pub once_moved : (xs ys : List ℕ) → IsPermutation xs ys → AllPairs (λ a b. a ≢ b) ys → AllPairs (λ a b. a ≢ b) xs
once_moved xs ys moved once =
    AllPairs-from_IsDistinct Decides-eqb xs (IsDistinct-IsPermutation eqb (λ a b. grind (arith, eqb_tells a b, eqb_tells b a)) ys xs
    (IsPermutation-sym xs ys moved) (IsDistinct-from_AllPairs Decides-eqb ys once))

module _ {V : Type 0} {values : Values V} where
  -- what tells the same as a frame tells each system what the frame tells it, in which each has one turn
  turns_alike : (f : Frame V) (s : State values) (log : Log V) → TellsTheSame log (frame f s).log → (i : ℕ)
      → answers_among i log.turns ≡ answers_among i (frame f s).log.turns
  turns_alike f s log tells i =
      let b : State values = before_turns f.posts s in
      let system = λ (turn : Turn V). turn.system in
      let once : AllPairs (λ a b. a ≢ b) (map system (frame f s).log.turns) =
      rw (in_that_order f (turn_order b) s (frame f s).log refl) (has_one_turn b) in
      told_alike system (λ (turn : Turn V). replies_of turn.outcome) i log.turns (frame f s).log.turns tells.turns
      (once_moved _ _ (IsPermutation-map system log.turns (frame f s).log.turns tells.turns) once) once

  pub replays_tell : ReplaysTellTheSame values
  replays_tell [] s [] tells i = refl
  replays_tell [] s (log ∷ logs) tells i = absurd tells
  replays_tell (f ∷ fs) s [] tells i = absurd tells
  replays_tell (f ∷ fs) s (log ∷ logs) tells i =
      grind (arith, turns_alike f s log tells.0 i, replays_tell fs (frame f s).state logs tells.1 i)
