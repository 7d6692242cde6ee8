-- The entries of a reader tell each number once, in order, and they are true.
use Rattle.std.proofs.Common.{All, IfSome, List, None, Option, Some, [], ap, arith, drop, flat_map, get_or, length, map, option_map, refl, slice_get, suc, take, zero, ℕ, ◌++◌, ◌+◌, ◌-◌, ◌∷◌, ◌≡◌, ◌≤◌}
use Rattle.std.specs.List.{range_with_len}
use Rattle.std.proofs.lemmas.{List.drop-append-le, List.drop-map, List.drop_more, List.length-append, List.length-drop, List.take-append-le, List.take-map, Option.slice_get-get_or}
use Rattle.msg_buffer.specs.Prelude.{Entry as Written, Fits, GoesOn, History, Stretch, Tile, count, next_place}
use Rattle.msg_buffer.proofs.Numbers.{instances-numbered, messages-numbered}
use Rattle.msg_world.specs.declared.record.Record.{Record}
use Rattle.msg_frames.specs.Prelude.{GivesItsStretch, IsTrueEntry, Moment, message_numbered, messages_of, entry_numbers}
use Rattle.msg_order.proofs.Elements.{range-Contains}
use Rattle.msg_frames.proofs.ReaderOverJob.{Begins, IsWritten, tile_of}

-- one range behind another
range_further : (a m b n k : ℕ) → b ≡ a + m → k ≡ m + n
    → range_with_len a m ++ range_with_len b n ≡ range_with_len a k
range_further a zero b n k behind all = grind arith
range_further a (suc m) b n zero behind all = absurd (omega (arith, all))
range_further a (suc m) b n (suc k) behind all =
    grind (arith, range_further (a + 1) m b n k (omega (arith, behind)) (omega (arith, all)))

module _ {V : Type 0} where
  pub tiles_rise : (p : ℕ) (ms : List (Moment V)) (q : ℕ) → Tile p (map tile_of ms) q → p ≤ q
  tiles_rise p [] q tile = grind arith
  tiles_rise p (m ∷ ms) q tile = grind (arith, tiles_rise (next_place m.entry.stretch) ms q tile.1)

  pub tells_once : (p : ℕ) (ms : List (Moment V)) (q : ℕ) → Tile p (map tile_of ms) q
      → flat_map entry_numbers (map (λ m. m.entry) ms) ≡ range_with_len p (q - p)
  tells_once p [] q tile = grind arith
  tells_once p (m ∷ ms) q tile =
      let s : Stretch = m.entry.stretch in
      let rest = tells_once (next_place s) ms q tile.1 in
      let up = tiles_rise (next_place s) ms q tile.1 in
      let here = range_further (s.first - s.missed) s.missed s.first s.number (s.missed + s.number)
      (omega (arith, tile.0.first)) refl in
      let all = range_further (s.first - s.missed) (s.missed + s.number) (next_place s) (q - next_place s) (q - p)
      (omega (arith, tile.0.first)) (omega (arith, tile.0.first, up)) in
      let begin : s.first - s.missed ≡ p = omega (arith, tile.0.first) in
      rw (rest, here, all, begin) refl

  -- ---- the messages of a stretch are what was written

  abbrev message_in : Written (Record V) → Record V
  message_in e = e.message

  -- those of a stretch, among the entries of a later history: they stay where they are
  messages_are : (h last : History (Record V)) (s : Stretch) → GoesOn h last → next_place s ≤ count h → messages_of h s
      ≡ map message_in (take s.number (drop s.first last.entries))
  messages_are h last s goes written =
      let stay : take s.number (drop s.first last.entries) ≡ take s.number (drop s.first h.entries) =
      grind (arith, drop-append-le, length-drop, take-append-le) in
      simp (stay, ← take-map, ← drop-map, instances-numbered, messages-numbered)

  read_range : (es : List (Written (Record V))) (a n : ℕ) → a + n ≤ length es
      → map (λ k. option_map message_in (slice_get es k)) (range_with_len a n)
      ≡ map Some (map message_in (take n (drop a es)))
  read_range es a zero below = refl
  read_range [] a (suc n) below = grind arith
  read_range (d ∷ es) a (suc n) below =
      grind (arith, slice_get-get_or (d ∷ es) a d, drop_more (d ∷ es) a d, read_range (d ∷ es) (a + 1) n)

module _ {V : Type 0} (h last : History (Record V)) (s : Stretch) (goes : GoesOn h last) (written : next_place s ≤ count h) where
  gave_as_written : (o : Option (List (Record V))) → IfSome o (λ items. items ≡ messages_of h s)
      → IfSome o (λ items. map (message_numbered last) (range_with_len s.first s.number) ≡ map Some items)
  gave_as_written None gives = tt
  gave_as_written (Some items) gives = rw (gives, messages_are h last s goes written)
      (read_range last.entries s.first s.number
      (omega (arith, ap length goes.entries, length-append h.entries goes.more)))

-- each stretch of a tile fits where the one before it ended
pub tile_fits : {V : Type 0} (p : ℕ) (ms : List (Moment V)) (q : ℕ) → Tile p (map tile_of ms) q
    → All (λ m. (place : ℕ) × ((p ≤ place) × Fits m.history place m.entry.stretch)) ms
tile_fits p [] q tile k d lt = absurd (omega arith)
tile_fits p (m ∷ ms) q tile zero d lt = (p, (omega arith, tile.0))
tile_fits p (m ∷ ms) q tile (suc k) d lt =
    let r = tile_fits (next_place m.entry.stretch) ms q tile.1 k d (omega arith) in
    (r.0, (omega (arith, r.1.0, tile.0.first), r.1.1))

module _ {V : Type 0} (last : History (Record V)) where
  pub are_true : (p : ℕ) (ms : List (Moment V)) (q : ℕ) → Tile p (map tile_of ms) q
      → All Begins ms → All GivesItsStretch ms → All (λ m. GoesOn m.history last) ms → All IsWritten ms
      → All (IsTrueEntry last) ms
  are_true p ms q tile begins gives goes written k d lt =
      let m : Moment V = get_or ms k d in
      let fits = (tile_fits p ms q tile k d lt).1.1 in
      let wrote = written k d lt in
      record {
        begins = begins k d lt;
        passed = λ n c. let at = range-Contains _ _ _ c in fits.passed n at.0 at.1;
        missed = λ n c. grind (arith, range-Contains _ _ _ c, wrote, fits.missed n, fits.first);
        gave = gave_as_written m.history last m.entry.stretch (goes k d lt) wrote m.entry.given (gives k d lt);
      }
