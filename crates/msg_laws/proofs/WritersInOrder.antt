-- What readers were given of a writer is what it was told that it wrote, and in that order.
use Rattle.std.proofs.Common.{All, AllPairs, Bool, Contains, IfSome, List, None, Option, Some, [], ap, arith, cond, false, filter, flat_map, get_or, inl, inr, length, map, refl, slice_get, sym, true, unwrap_or, ℕ, ◌+◌, ◌-◌, ◌<◌, ◌==◌, ◌∙◌, ◌∷◌, ◌≡◌, ◌≤◌}
use Rattle.std.proofs.lemmas.{Bool.cases_Bool, Bool.eq-eqb, List.get_or-map, List.length-map, List.Elements.All-contains, List.Elements.Contains-append_cases, List.Elements.filter-append, List.Kept.AllPairs-filter}
use Rattle.std.proofs.lemmas.List.FromFn.{get_or-enumerate_from, get_or-map-range_with_len, length-enumerate_from, length-map-range_with_len}
use Rattle.std.proofs.lemmas.Option.{get_or_from_slice_get, slice_get-get_or, slice_get-map, slice_get_within}
use Rattle.std.specs.List.{Sorted.IsStrictlyIncreasing, enumerate_from, range_with_len}
use Rattle.msg_buffer.specs.Prelude.{Entry, History}
use Rattle.msg_world.specs.{Prelude.Values, Prelude.by, declared.record.Record.Record}
use Rattle.msg_system.specs.{Prelude.Step, Prelude.wrote, declared.op.Op.Op, declared.op.Op.TheVariants.Batch, declared.op.Op.TheVariants.Forward, declared.op.Op.TheVariants.Write, declared.reply.Reply.Reply, declared.reply.Reply.TheVariants.Forwarded, declared.reply.Reply.TheVariants.Wrote}
use Rattle.msg_frames.proofs.ElementsAndPairs.{pairs_right}
use Rattle.msg_frames.specs.Prelude.{IsTrueEntry, Moment, ReadEntry, all_written, message_numbered, moments, run, written_in}
use Rattle.msg_laws.specs.Prelude.{WritersInOrder, numbered_given, written_by}
use Rattle.msg_order.proofs.Elements.{Contains-filter, flat_map-Contains, map-Contains, not_in_none}

-- ---- a list with numbers

module _ {X : Type 0} where
  -- what stands there stands in the list, at that number
  pub at_number : (xs : List X) (a n : ℕ) (x : X) → Contains (enumerate_from a xs) (n, x)
      → (a ≤ n) × (n < a + length xs) × (slice_get xs (n - a) ≡ Some x)
  at_number xs a n x c =
      let lt : c.0 < length xs = omega (arith, length-enumerate_from a xs, c.1) in
      let at : (a + c.0 ≡ n) × (get_or xs c.0 x ≡ x) = grind (arith, get_or-enumerate_from a xs c.0 (n, x) lt) in
      let place : n - a ≡ c.0 = omega (arith, at.0) in
      (omega (arith, at.0), omega (arith, at.0, lt), rw (place, slice_get-get_or xs c.0 x lt, at.1) refl)

  numbered : (xs : List X) (n : ℕ) (x : X) → slice_get xs n ≡ Some x → Contains (enumerate_from 0 xs) (n, x)
  numbered xs n x is =
      let lt = slice_get_within xs n x is in
      let at = get_or-enumerate_from 0 xs n (n, x) lt in
      (n, omega (arith, length-enumerate_from 0 xs, lt), grind (arith, at, get_or_from_slice_get xs n x x is))

  abbrev Rise : ℕ × X → ℕ × X → Type 0
  Rise x y = x.0 < y.0

  numbers_rise : (xs : List X) (a : ℕ) → AllPairs Rise (enumerate_from a xs)
  numbers_rise xs a i j d lt l =
      let within : j < length xs = omega (arith, length-enumerate_from a xs, l) in
      grind (arith, get_or-enumerate_from a xs i d, get_or-enumerate_from a xs j d, within)

  is_increasing : (ys : List (ℕ × X)) → AllPairs Rise ys → IsStrictlyIncreasing (map (λ y. y.0) ys)
  is_increasing [] rise k lt = absurd (omega arith)
  is_increasing (y ∷ ys) rise k lt =
      let at = λ (i : ℕ). get_or-map (λ (z : ℕ × X). z.0) (y ∷ ys) i y 0 in
      grind (arith, at k, at (k + 1), length-map (y ∷ ys) (λ (z : ℕ × X). z.0), rise k (k + 1) y)

  -- if a range of numbers has these, each is found under its number
  under_number : (f : ℕ → Option X) (a k : ℕ) (o : Option (List X))
      → IfSome o (λ xs. map f (range_with_len a k) ≡ map Some xs)
      → (n : ℕ) (x : X) → Contains (enumerate_from a (unwrap_or o [])) (n, x) → f n ≡ Some x
  under_number f a k None gave n x c = absurd (not_in_none (n, x) c)
  under_number f a k (Some xs) gave n x c =
      let at = at_number xs a n x c in
      let number : length xs ≡ k = omega (arith, ap length gave, length-map xs Some, length-map-range_with_len f a k) in
      let found : slice_get (map Some xs) (n - a) ≡ Some (Some x) = rw (slice_get-map Some xs (n - a), at.2) refl in
      sym (get_or-map-range_with_len f a k (n - a) n None (omega (arith, at.0, at.1, number)) (omega (arith, at.0)))
      ∙ ap (λ (os : List (Option X)). get_or os (n - a) None) gave
      ∙ get_or_from_slice_get (map Some xs) (n - a) (Some x) None found

-- ---- what an entry gave

module _ {V : Type 0} where
  gave_numbered : (last : History (Record V)) (ms : List (Moment V)) → All (IsTrueEntry last) ms
      → (n : ℕ) (m : Record V) → Contains (numbered_given (map (λ x. x.entry) ms)) (n, m)
      → message_numbered last n ≡ Some m
  gave_numbered last ms are n m c =
      let numbers = λ (e : ReadEntry V). enumerate_from e.stretch.first (unwrap_or e.given []) in
      let e = flat_map-Contains numbers (map (λ x. x.entry) ms) (n, m) c in
      let x = map-Contains (λ x. x.entry) ms e.0 e.1.0 in
      let gave = (All-contains (IsTrueEntry last) ms x.0 are x.1.0).gave in
      let stretch = x.0.entry.stretch in
      under_number (message_numbered last) stretch.first stretch.number x.0.entry.given gave n m (rw x.1.1 e.1.1)

-- ---- what was written

module _ {V : Type 0} (writer : ℕ) where
  abbrev pub is_by : ℕ × Record V → Bool
  is_by x = x.1.writer == writer

  none_by : (b : Bool) → filter is_by [] ≡ cond b [] []
  none_by true = refl
  none_by false = refl

  made_by : {X : Type 0} (i a : ℕ) (value : X → V) (xs : List X) →
      let ms = enumerate_from a (map (λ x. by i (value x)) xs) in
      filter is_by ms ≡ cond (i == writer) ms []
  made_by i a value [] = none_by (i == writer)
  made_by i a value (x ∷ xs) = grind (arith, cases_Bool, made_by i (a + 1) value xs)

  all_by : {X : Type 0} (here : Bool) (i a : ℕ) (value : X → V) (xs : List X) →
      let ms = cond here (enumerate_from a (map (λ x. by i (value x)) xs)) [] in
      filter is_by ms ≡ cond (i == writer) ms []
  all_by true i a value xs = made_by i a value xs
  all_by false i a value xs = none_by (i == writer)

  -- what an op of system i wrote is by system i
  wrote_by : (t i : ℕ) (op : Op V) (reply : Reply V) → filter is_by (wrote t i op reply)
      ≡ cond (i == writer) (wrote t i op reply) []
  wrote_by t i (Write u v) (Wrote w) = all_by (u == t) i w.first (λ x. x) (v ∷ [])
  wrote_by t i (Batch u vs) (Wrote w) = all_by (u == t) i w.first (λ x. x) vs
  wrote_by t i (Forward a u) (Forwarded took (Some w)) =
      all_by (u == t) i w.first (λ (r : Record V). r.value) took.items
  wrote_by t i op reply = none_by (i == writer)

filter_flat : {X Y : Type 0} (f : X → List Y) (p : X → Bool) (q : Y → Bool)
    → ((x : X) → filter q (f x) ≡ cond (p x) (f x) []) → (xs : List X)
    → flat_map f (filter p xs) ≡ filter q (flat_map f xs)
filter_flat f p q each [] = refl
filter_flat f p q each (x ∷ xs) = grind (arith, cases_Bool (p x), filter-append, each x, filter_flat f p q each xs)

module _ {V : Type 0} {values : Values V} where
  -- what a writer was told that it wrote is what steps tell of its own messages
  pub by_writer : (writer t : ℕ) (steps : List (ℕ × Step values))
      → written_by writer t steps ≡ filter (is_by writer) (written_in t steps)
  by_writer writer t steps =
      filter_flat (λ (x : ℕ × Step values). wrote t x.0 x.1.op x.1.reply) (λ x. x.0 == writer) (is_by writer)
      (λ x. wrote_by writer t x.0 x.1.op x.1.reply) steps

  -- ---- writer by writer

  pub writers_in_order : WritersInOrder values
  writers_in_order frames s complete i t below has writer =
      let last = (run frames s).state.world.histories t in
      let steps = (run frames s).steps in
      let grew = (complete.written t).grew in
      let old : List (ℕ × Record V) = all_written (s.world.histories t) in
      let new = written_in t steps in
      let message = λ (e : Entry (Record V)). e.message in
      let all = numbers_rise (map message last.entries) 0 in
      let rise : AllPairs Rise new = pairs_right Rise old new (rw grew at all) in
      record {
        as_told = λ n m c own.
            let there = gave_numbered last (moments i t frames s) (complete.served i t below has).true n m c in
            let among = numbered (map message last.entries) n m (rw (slice_get-map message last.entries n) there) in
            elim (Contains-append_cases old new (n, m) (rw grew at among)) [
              | inl before ↦
                  let at = at_number (map message (s.world.histories t).entries) 0 n m before in
                  inl (omega (arith, at.1, length-map (s.world.histories t).entries message))
              | inr after ↦
                  let own_too = Contains-filter (is_by writer) new (n, m) after (eq-eqb m.writer writer own) in
                  inr (rw (by_writer writer t steps) own_too)
            ];
        in_order = rw (by_writer writer t steps)
            (is_increasing (filter (is_by writer) new) (AllPairs-filter Rise (is_by writer) new rise));
      }
