-- What a buffer stands for after each change, and that each stands for some history.
use Rattle.std.proofs.Common.{◌≡◌, ℕ, ◌+◌, ◌≤◌, true, List, [], ◌++◌, length, map, replicate, arith, length-append, append_assoc, append-nil}
use Rattle.std.proofs.lemmas.{Bool.Decides.nat_tests, List.length-map, List.length-replicate}
use Rattle.msg_buffer.specs.Prelude.{HasNumbersFrom, History, Instance, Kept, StandsFor, clear, count, empty, has_room, is_present, kept_count, message_of, numbered, oldest, present, stamped, update, write}
use Rattle.msg_buffer.specs.Kept.{HasBounds}
use Rattle.msg_buffer.proofs.{Histories.aged, Histories.dropped_and_kept, Histories.none_below, Histories.of_stamped, Histories.stamps_later, Numbers.length-numbered, Numbers.numbers-append}

module _ {M : Type 0} where
  -- all but the dropped are kept
  pub oldest_and_present : (h : History M) → oldest h + length (present h) ≡ count h
  oldest_and_present h = dropped_and_kept (is_present h) 0 h.entries

  -- what is kept of a buffer
  pub record Keeps (k : Kept M) (most start : ℕ) (first last : List (Instance M)) : Type 0 where
    pub limit : k.limit ≡ most
    pub oldest : k.oldest ≡ start
    pub older : k.older ≡ first
    pub newer : k.newer ≡ last

  pub stands_updated : (k k' : Kept M) (h : History M) → Keeps k' k.limit (k.oldest + length k.older) k.newer []
      → StandsFor k h → StandsFor k' (update h)
  stands_updated k k' h is s =
      grind (arith, is, s, oldest_and_present (update h), append-nil, stamps_later, aged)

  pub stands_written : (ms : List M) (k k' : Kept M) (h : History M)
      → Keeps k' k.limit k.oldest k.older (k.newer ++ numbered (kept_count k) ms)
      → kept_count k + length ms ≤ k.limit → StandsFor k h → StandsFor k' (write ms h)
  stands_written ms k k' h is room s =
      let fits : has_room h (length ms) ≡ true = grind (arith, nat_tests, s) in
      let old = oldest_and_present h in
      let new = oldest_and_present (record h { entries = h.entries ++ stamped h.updates ms }) in
      rw fits (grind (arith, is, s, old, new, append_assoc, length-append, length-numbered, of_stamped))

  -- what a buffer of these bounds comes to by a write
  pub written : (limit number start next : ℕ) (older newer : List (Instance M)) (ms : List M)
      → HasBounds limit number start next older newer → number + length ms ≤ limit
      → HasBounds limit (number + length ms) start next older (newer ++ numbered number ms)
      × ((h : History M) → StandsFor (record { limit = limit; oldest = start; older = older; newer = newer }) h
      → StandsFor (record { limit = limit; oldest = start; older = older; newer = newer ++ numbered number ms }) (write ms h))
  written limit number start next older newer ms i room = (
    grind (arith, i, room, length-append, length-numbered, numbers-append next number newer ms i.newer_numbers),
    λ h s. stands_written ms _ _ h (grind (arith, i)) (grind (arith, i, room)) s,
  )

  pub stands_cleared : (k k' : Kept M) (h : History M) → Keeps k' k.limit (kept_count k) [] [] → StandsFor k h
      → StandsFor k' (clear h)
  stands_cleared k k' h is s = grind (arith, is, s, none_below, oldest_and_present (clear h))

  -- a buffer stands for some history, if there is a value of the type of its messages: the one of a buffer to which as
  -- many of these were written as were dropped, which was cleared, and to which then each half was written
  pub stands_for_some : (m : M) (k : Kept M) → kept_count k ≤ k.limit → HasNumbersFrom k.oldest k.older
      → HasNumbersFrom (k.oldest + length k.older) k.newer → (h : History M) × StandsFor k h
  stands_for_some m k room older newer =
      let lost = replicate k.oldest m in
      let first = map message_of k.older in
      let last = map message_of k.newer in
      let kept : ℕ → List (Instance M) → List (Instance M) → Kept M = λ n a b.
      record { limit = k.limit; oldest = n; older = a; newer = b } in
      let long = length-replicate k.oldest m in
      let none : StandsFor (kept 0 [] []) (empty k.limit) = grind arith in
      let a : StandsFor (kept 0 [] (numbered 0 lost)) _ =
      stands_written lost (kept 0 [] []) _ _ (grind arith) (omega (arith, long)) none in
      let b : StandsFor (kept k.oldest [] []) _ =
      stands_cleared _ _ _ (grind (arith, length-numbered, long)) a in
      let c : StandsFor (kept k.oldest [] k.older) _ =
      stands_written first _ _ _ (grind (arith, older)) (grind (arith, length-map)) b in
      let d : StandsFor (kept k.oldest k.older []) _ = stands_updated _ _ _ (grind arith) c in
      (_, stands_written last _ k _ (grind (arith, newer)) (grind (arith, length-map)) d)
