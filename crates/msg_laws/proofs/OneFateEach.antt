-- Entries that tell each number of a range once: each message meets one fate, at one entry.
use Rattle.std.proofs.Common.{All, AllPairs, Contains, IfSome, List, None, Option, Some, [], ap, arith, cond, drop, flat_map, get_or, inl, inr, is_some, length, length-append, map, nat_lt, refl, suc, sym, unwrap_or, zero, ℕ, ◌++◌, ◌+◌, ◌-◌, ◌<◌, ◌∷◌, ◌≡◌, ◌≤◌}
use Rattle.std.proofs.lemmas.{Bool.cases_Bool, Bool.cases_lt, Bool.le-ltb, Bool.lt-ltb, Bool.Decides.nat_tests, List.map-append, List.Elements.All-head, List.Elements.All-tail, List.Elements.All-weaker, List.FromFn.get_or-range_with_len, List.FromFn.length-range_with_len, Option.slice_get_read}
use Rattle.std.specs.List.{range_with_len}
use Rattle.msg_buffer.specs.Prelude.{History}
use Rattle.msg_world.specs.{Prelude.Values, declared.record.Record.Record}
use Rattle.msg_frames.proofs.EntriesAddUp.{all_told}
use Rattle.msg_frames.specs.Prelude.{IsTrueEntry, Moment, ReadEntry, entries_in_run, found_at, message_numbered, moments, numbers_given, numbers_missed, numbers_passed, entry_numbers, reader_place, run}
use Rattle.msg_laws.specs.Prelude.{EachMeetsOneFate, Fate, Meets, cleared, given, messages_given, missed, numbers_at, numbers_of}
use Rattle.msg_order.proofs.{Elements.Contains-range, Elements.flat_map-Contains, Elements.range-Contains, TurnOrders.pairs_append}

-- ---- a range, cut where lists meet

range_cut : (xs ys : List ℕ) (a k : ℕ) → xs ++ ys ≡ range_with_len a k
    → (length xs ≤ k) × (xs ≡ range_with_len a (length xs)) × (ys ≡ range_with_len (a + length xs) (k - length xs))
range_cut [] ys a k is = grind arith
range_cut (x ∷ xs) ys a zero is = absurd (omega (arith, ap length is))
range_cut (x ∷ xs) ys a (suc k) is =
    let first : x ≡ a = ap (λ (ns : List ℕ). get_or ns 0 0) is in
    grind (arith, first, range_cut xs ys (a + 1) k (ap (drop 1) is))

-- what an entry gave, or nothing
gave_is : {X : Type 0} (f : ℕ → Option X) (ns : List ℕ) (o : Option (List X))
    → IfSome o (λ items. map f ns ≡ map Some items) → map f (cond (is_some o) ns []) ≡ map Some (unwrap_or o [])
gave_is f ns None gave = refl
gave_is f ns (Some items) gave = gave

-- Entry e tells the numbers from a on.
record TellsFrom {V : Type 0} (a : ℕ) (e : ReadEntry V) : Type 0 where
  missed_there : numbers_missed e ≡ range_with_len a e.stretch.missed
  passed_there : numbers_passed e ≡ range_with_len (a + e.stretch.missed) e.stretch.number

module _ {V : Type 0} where
  -- where the numbers end that it tells from a on
  abbrev past : ℕ → ReadEntry V → ℕ
  past a e = a + e.stretch.missed + e.stretch.number

  -- These entries tell the numbers from a to b, each from where the one before it ended.
  abbrev TellOnce : ℕ → List (ReadEntry V) → ℕ → Type 0
  TellOnce a [] b = a ≡ b
  TellOnce a (e ∷ es) b = TellsFrom a e × TellOnce (past a e) es b

  tell_once : (es : List (ReadEntry V)) (a b : ℕ) → a ≤ b → flat_map entry_numbers es ≡ range_with_len a (b - a)
      → TellOnce a es b
  tell_once [] a b up is = omega (arith, up, ap length is, length-range_with_len a (b - a))
  tell_once (e ∷ es) a b up is =
      let first = length-range_with_len (e.stretch.first - e.stretch.missed) e.stretch.missed in
      let second = length-range_with_len e.stretch.first e.stretch.number in
      let both : length (entry_numbers e) ≡ e.stretch.missed + e.stretch.number =
      omega (arith, first, second, length-append (numbers_missed e) (numbers_passed e)) in
      let cut = range_cut (entry_numbers e) (flat_map entry_numbers es) a (b - a) is in
      let here = range_cut (numbers_missed e) (numbers_passed e) a (length (entry_numbers e)) cut.1 in
      let behind : a + length (entry_numbers e) ≡ past a e = omega (arith, both) in
      let more : b - a - length (entry_numbers e) ≡ b - past a e = omega (arith, both, up) in
      let rest = tell_once es (past a e) b (omega (arith, both, cut.0, up)) (rw (behind, more) at cut.2) in (
        record {
          missed_there = grind (arith, first, here);
          passed_there = grind (arith, first, second, both, here);
        },
        rest,
      )

  -- ---- fates

  abbrev fate_at : ℕ → ReadEntry V → ℕ → Fate
  fate_at a e n = cond (nat_lt n (a + e.stretch.missed)) missed (cond (is_some e.given) given cleared)

  -- a number that met a fate at an entry lies there, and met no other
  fate_of : (fate : Fate) (e : ReadEntry V) (n a : ℕ) → TellsFrom a e → Contains (numbers_at fate e) n
      → (a ≤ n) × (n < past a e) × (fate_at a e n ≡ fate)
  fate_of missed e n a tells c = grind (arith, nat_tests, range-Contains _ _ _ (rw tells.missed_there at c))
  fate_of fate e n a tells c =
      let lies = λ (p : Contains (numbers_passed e) n). range-Contains (a + e.stretch.missed) e.stretch.number n (rw tells.passed_there at p) in
      grind (arith, cases_Bool (is_some e.given), nat_tests, lies)

  -- and each number there met one
  has_fate : (e : ReadEntry V) (n a : ℕ) → TellsFrom a e → a ≤ n → n < past a e → Contains (numbers_at (fate_at a e n) e) n
  has_fate e n a tells low high =
      let before = Contains-range a e.stretch.missed n in
      let passed = Contains-range (a + e.stretch.missed) e.stretch.number n in
      grind (arith, before, cases_Bool (is_some e.given), nat_tests, passed, tells.missed_there, tells.passed_there)

  tells_up : (a : ℕ) (es : List (ReadEntry V)) (b : ℕ) → TellOnce a es b → a ≤ b
  tells_up a [] b tell = grind arith
  tells_up a (e ∷ es) b tell = grind (arith, tells_up (past a e) es b tell.1)

  -- at which entry a number met a fate, and which
  abbrev met_by : ℕ → List (ReadEntry V) → ℕ → ℕ × Fate
  met_by a [] n = (0, missed)
  met_by a (e ∷ es) n = cond (nat_lt n (past a e)) (0, fate_at a e n)
      (let rest = met_by (past a e) es n in (suc rest.0, rest.1))

  met_there : (a : ℕ) (es : List (ReadEntry V)) (b : ℕ) → TellOnce a es b → (n : ℕ) → a ≤ n → n < b
      → Meets es n (met_by a es n).0 (met_by a es n).1
  met_there a [] b tell n low high = let same : a ≡ b = tell in absurd (omega arith)
  met_there a (e ∷ es) b tell n low high = elim (cases_lt n (past a e)) [
    | inl before ↦
        let among = has_fate e n a tell.0 low before in
        rw (lt-ltb n (past a e) before) (record { entry = e; is_entry = refl; among = among })
    | inr further ↦
        let rest = met_there (past a e) es b tell.1 n further high in
        rw (le-ltb n (past a e) further) (record { entry = rest.entry; is_entry = rest.is_entry; among = rest.among })
  ]

  met_there_only : (a : ℕ) (es : List (ReadEntry V)) (b : ℕ) → TellOnce a es b → (n k : ℕ) (fate : Fate)
      → Meets es n k fate → (a ≤ n) × (n < b) × (met_by a es n ≡ (k, fate))
  met_there_only a [] b tell n k fate met = absurd (cc)
  met_there_only a (e ∷ es) b tell n zero fate met =
      let among : Contains (numbers_at fate e) n = grind (arith, met.among, met.is_entry) in
      grind (arith, fate_of fate e n a tell.0 among, nat_tests, tells_up (past a e) es b tell.1)
  met_there_only a (e ∷ es) b tell n (suc k) fate met =
      let later : Meets es n k fate = record { entry = met.entry; is_entry = met.is_entry; among = met.among } in
      grind (arith, met_there_only (past a e) es b tell.1 n k fate later, nat_tests)

  -- those that were given rise
  given_rise : (a : ℕ) (es : List (ReadEntry V)) (b : ℕ) → TellOnce a es b
      → AllPairs (λ x y. x < y) (numbers_of given es)
  given_rise a [] b tell = λ i j d lt l. absurd (omega arith)
  given_rise a (e ∷ es) b tell =
      let here : AllPairs (λ x y. x < y) (numbers_given e) =
      λ i j d lt l. grind (arith, cases_Bool (is_some e.given), get_or-range_with_len, length-range_with_len) in
      let rest = given_rise (past a e) es b tell.1 in
      pairs_append (λ x y. x < y) (numbers_given e) (numbers_of given es) here rest (λ x y at_x at_y.
      let f = flat_map-Contains numbers_given es y at_y in
      let is = slice_get_read es (length es) f.1.0.0 f.0 refl f.1.0.1 (sym f.1.0.2) in
      let met : Meets es y f.1.0.0 given = record { entry = f.0; is_entry = is; among = f.1.1 } in
      omega (arith, fate_of given e x a tell.0 at_x, met_there_only (past a e) es b tell.1 y f.1.0.0 given met))

  -- ---- what was given is what was written

  all_as_written : (last : History (Record V)) (ms : List (Moment V)) → All (IsTrueEntry last) ms →
      let es = map (λ m. m.entry) ms in
      map (message_numbered last) (numbers_of given es) ≡ map Some (messages_given es)
  all_as_written last [] are = refl
  all_as_written last (m ∷ ms) are =
      let true = All-head (IsTrueEntry last) m ms are in
      let here = gave_is (message_numbered last) (numbers_passed m.entry) m.entry.given true.gave in
      let rest = all_as_written last ms (All-tail (IsTrueEntry last) m ms are) in
      grind (arith, here, map-append, rest)

-- ---- all of it

module _ {V : Type 0} {values : Values V} where
  pub each_meets_one_fate : EachMeetsOneFate values
  each_meets_one_fate i t frames s served =
      let es : List (ReadEntry V) = entries_in_run i t frames s in
      let from : ℕ = found_at s (run frames s).state i t in
      let to : ℕ = reader_place (run frames s).state i t in
      let tell = tell_once es from to served.forward served.once in
      let number = length-range_with_len from (to - from) in
      record {
        each = λ n low high. record {
          entry = (met_by from es n).0;
          fate = (met_by from es n).1;
          met = met_there from es to tell n low high;
          only = λ k other met. rw ((met_there_only from es to tell n k other met).2) (refl, refl);
        };
        no_other = λ n k fate met. let only = met_there_only from es to tell n k fate met in (only.0, only.1);
        in_order = λ k lt. given_rise from es to tell k (k + 1) 0 (omega arith) lt;
        as_written = all_as_written _ (moments i t frames s) served.true;
        dropped = All-weaker (IsTrueEntry _) _ (λ m true. true.missed) (moments i t frames s) served.true;
        adds_up = omega (arith, served.forward, ap length served.once, number, all_told es);
      }
