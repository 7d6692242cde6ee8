-- What is unread, in what a buffer keeps and in the history that it stands for.
use Rattle.std.proofs.Common.{◌≡◌, ℕ, ◌+◌, ◌-◌, ◌≤◌, max, List, [], ◌∷◌, length, length-append, drop, arith, Some, None}
use Rattle.std.proofs.lemmas.{Option.slice_get_within, Option.slice_get_cases, Option.get_or_from_slice_get, Option.none-some, List.drop_more, List.drop_all, List.drop-drop, List.length-drop, Bool.Decides.nat_tests}
use Rattle.msg_buffer.specs.Prelude.{History, Kept, StandsFor, count, first, get_from, instances, kept_instances, oldest, unread}
use Rattle.msg_buffer.proofs.{Presence.kept_stands, Numbers.length-instances}

-- the element under a number is the first of those from it on
pub rest_more : {X : Type 0} (start : ℕ) (xs : List X) (n : ℕ) (x : X) → get_from start xs n ≡ Some x
    → drop (n - start) xs ≡ x ∷ drop (n + 1 - start) xs
rest_more start xs n x is =
    grind (arith, nat_tests, slice_get_within, get_or_from_slice_get xs (n - start) x x, drop_more)

pub rest_ends : {X : Type 0} (start : ℕ) (xs : List X) (n : ℕ) → start ≤ n → get_from start xs n ≡ None
    → drop (n - start) xs ≡ []
rest_ends start xs n above is = grind (arith, drop_all, nat_tests, none-some, slice_get_cases)

module _ {M : Type 0} where
  pub unread_stands : (k : Kept M) (h : History M) (place : ℕ) → StandsFor k h
      → drop (max place k.oldest - k.oldest) (kept_instances k) ≡ unread h place
  unread_stands k h place s =
      grind (arith, s.oldest, kept_stands k h s, drop-drop (max place k.oldest - k.oldest) (oldest h) (instances h))

  pub length-unread : (h : History M) (place : ℕ) → length (unread h place) ≡ count h - first h place
  length-unread h place = rw (length-drop, length-instances)

-- what a cursor's length and the calls of an iterator are proved by
pub ruleset of_reads = (length-unread, rest_more, rest_ends, drop_all, length-append, length-drop)
