-- Items in a line.
use Rattle.std.proofs.Common.{◌≡◌, ℕ, ◌+◌, ◌<◌, List, [], ◌∷◌, ◌++◌, length, refl, sym, append_assoc, append-nil, codes, Option, arith, ℤ}
use Rattle.std.specs.{Borrow.Bor, declared.alloc.Global.Global}
use Rattle.std.proofs.Math.Seq.{take-append_seam}
use Rattle.std.proofs.lemmas.Grind.{common_steps}
use Rattle.msg_buffer.specs.Prelude.{Gives, HasGiven, at_most, iter_rest, instance_shown}
use Rattle.msg_buffer.specs.{declared.Instance.Instance, declared.instance.MessageId.MessageId, declared.iter.MessageIter.MessageIter}
use Rattle.msg_buffer.proofs.Tiles.{take-at_most}
use Rattle.msg_calls.specs.Prelude.{pair_text, pairs_text, more_pairs}

pub more_pairs-push : (xs : List (Instance ℤ)) (x : Instance ℤ)
    → more_pairs (xs ++ x ∷ []) ≡ more_pairs xs ++ (codes " " ++ pair_text x)
more_pairs-push [] x = append-nil _
more_pairs-push (y ∷ ys) x =
    rw (more_pairs-push ys x) (sym (append_assoc (codes " " ++ pair_text y) (more_pairs ys) (codes " " ++ pair_text x)))

-- some items, each with a space in front
pub spaced_items : (xs : List (Instance ℤ)) → 0 < length xs → more_pairs xs ≡ codes " " ++ pairs_text xs
spaced_items [] some = absurd (omega arith)
spaced_items (x ∷ xs) some = refl

-- ---- the items of a read

-- an iterator gave so many messages, and each was added to a text
pub record HasAdded (start now : MessageIter ℤ Global) (before text : List ℕ) (number : ℕ) : Type 0 where
  pub taken : List (Instance ℤ)
  pub gave : HasGiven start now taken
  pub counted : length taken ≡ number
  pub made : text ≡ before ++ more_pairs taken

-- one message more
pub HasAdded_more : (start now next : MessageIter ℤ Global) (item : MessageId × Bor ℤ) (before text text' : List ℕ)
    (number : ℕ)
    → HasAdded start now before text number → Gives now item next
    → text' ≡ text ++ (codes " " ++ pair_text (instance_shown item)) → HasAdded start next before text' (number + 1)
HasAdded_more start now next item before text text' number so_far gives added =
    grind (arith, common_steps, so_far, gives, append_assoc, more_pairs-push so_far.taken (instance_shown item))

-- as many as the read gives: they are what it gives
pub HasAdded_given : (start now : MessageIter ℤ Global) (before text : List ℕ) (number : ℕ) (limit : Option ℕ)
    (unread : List (Instance ℤ)) → (so_far : HasAdded start now before text number) → iter_rest start ≡ unread
    → number ≡ length (at_most limit unread) → so_far.taken ≡ at_most limit unread
HasAdded_given start now before text number limit unread so_far rest is =
    grind (arith, so_far, take-append_seam so_far.taken (iter_rest now), take-at_most limit unread)
