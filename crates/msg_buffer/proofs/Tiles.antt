-- Reads and clears fit one behind the other.
use Rattle.std.proofs.Common.{◌≡◌, ℕ, ◌-◌, ◌≤◌, List, [], ◌∷◌, length, take, refl, sym, arith, Option, Some, None}
use Rattle.std.proofs.{Math.Seq.take-length, lemmas.Grind.common_steps, lemmas.List.length-take, lemmas.List.Elements.All-head, lemmas.List.Elements.All-tail}
use Rattle.msg_buffer.specs.Prelude.{ClearsFit, Fits, History, Instance, IsSound, Pass, ReadsFit, ReadsUpTo, RunsTile, at_most, clears, count, first, given, next_place, oldest, reads, stretch_of, unread}
use Rattle.msg_buffer.proofs.{Standing.oldest_and_present, Presence.is_there, Presence.not_present, Unread.length-unread}

module _ {M : Type 0} where
  length-at_most : (limit : Option ℕ) (xs : List (Instance M)) → length (at_most limit xs) ≤ length xs
  length-at_most None xs = omega arith
  length-at_most (Some k) xs = grind (arith, common_steps)

  pub take-at_most : (limit : Option ℕ) (xs : List (Instance M))
      → at_most limit xs ≡ take (length (at_most limit xs)) xs
  take-at_most None xs = sym (take-length xs)
  take-at_most (Some k) xs = grind (arith, common_steps)

  -- a stretch of so many of the unread messages
  fits : (h : History M) (place n : ℕ) → IsSound h → n ≤ length (unread h place)
      → Fits h place (record { missed = oldest h - place; first = first h place; number = n })
  fits h place n sound le =
      let long = length-unread h place in record {
        first = omega arith;
        missed = λ k from below. not_present h k sound (omega arith);
        passed = λ k from below. is_there h k sound (omega arith) (omega arith);
      }

  oldest_at_most : (h : History M) → oldest h ≤ count h
  oldest_at_most h = omega (arith, oldest_and_present h)

  pub reads_fit : ReadsFit M
  reads_fit h place limit sound =
      let le = length-at_most limit (unread h place) in
      let long = length-unread h place in let old = oldest_at_most h in
      (fits h place (length (given h place limit)) sound le, take-at_most limit (unread h place), λ within. omega arith)

  pub reads_up_to : ReadsUpTo M
  reads_up_to h place = (refl, λ limit. length-take limit (unread h place))

  pub clears_fit : ClearsFit M
  clears_fit h place sound = grind (arith, fits, length-unread, oldest_at_most)

  one_fits : (h : History M) (place : ℕ) (pass : Pass) → IsSound h → Fits h place (stretch_of h place pass)
  one_fits h place (reads limit) sound = (reads_fit h place limit sound).0
  one_fits h place clears sound = (clears_fit h place sound).0

  pub runs_tile : RunsTile M
  runs_tile place [] sound = refl
  runs_tile place ((h, pass) ∷ xs) sound = (
    one_fits h place pass (All-head (λ x. IsSound x.0) (h, pass) xs sound),
    runs_tile (next_place (stretch_of h place pass)) xs (All-tail (λ x. IsSound x.0) (h, pass) xs sound),
  )
