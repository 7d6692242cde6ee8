-- If the messages from a number on have recent stamps, ops, turns and posts keep it so.
use Rattle.std.proofs.Common.{List, Some, [], arith, inl, inr, slice_get, suc, zero, ℕ, ◌++◌, ◌+◌, ◌∷◌, ◌≡◌, ◌≤◌, ◌⊎◌}
use Rattle.std.proofs.lemmas.{Bool.cases_Bool, List.get_or_append_left, List.length-append, Option.get_or_from_slice_get, Option.none-some, Option.same_Some, Option.slice_get-get_or, Option.slice_get_within}
use Rattle.msg_buffer.specs.Prelude.{Entry, GoesOn, History, stamped}
use Rattle.msg_world.specs.declared.record.Record.{Record}
use Rattle.msg_frames.proofs.HistoriesGrow.{IsKept}

module _ {V : Type 0} where
  -- the messages from number p on were written at most k updates ago
  abbrev pub AreRecent : ℕ → ℕ → History (Record V) → Type 0
  AreRecent k p h = (n : ℕ) (e : Entry (Record V)) → p ≤ n → slice_get h.entries n ≡ Some e → h.updates ≤ e.stamp + k

  at_append : (xs ys : List (Entry (Record V))) (n : ℕ) (e : Entry (Record V)) → slice_get (xs ++ ys) n ≡ Some e
      → (slice_get xs n ≡ Some e) ⊎ ((m : ℕ) × (slice_get ys m ≡ Some e))
  at_append [] ys n e at = inr (n, at)
  at_append (x ∷ xs) ys zero e at = inl at
  at_append (x ∷ xs) ys (suc n) e at = at_append xs ys n e at

  stamp_of : (u : ℕ) (ms : List (Record V)) (n : ℕ) (e : Entry (Record V)) → slice_get (stamped u ms) n ≡ Some e → e.stamp ≡ u
  stamp_of u [] n e at = absurd (none-some e at)
  stamp_of u (m ∷ ms) zero e at = grind (arith, same_Some)
  stamp_of u (m ∷ ms) (suc n) e at = stamp_of u ms n e at

  -- what keeps them recent
  abbrev pub StaysRecent : ℕ → ℕ → History (Record V) → History (Record V) → Type 0
  StaysRecent k p a b = AreRecent k p a → AreRecent k p b

  pub stays_recent : (k p : ℕ) → IsKept (StaysRecent k p)
  stays_recent k p = grind (arith, at_append, cases_Bool, stamp_of)

  -- messages that are recent in a history were recent before that history went on
  pub earlier_recent : (k p : ℕ) (a b : History (Record V)) → GoesOn a b → AreRecent k p b → AreRecent k p a
  earlier_recent k p a b goes recent n e above at =
      let same = get_or_append_left a.entries goes.more e n in
      grind (arith, get_or_from_slice_get, length-append, recent n e above, same, slice_get-get_or, slice_get_within)
