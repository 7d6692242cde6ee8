-- A list that is made element by element, with a comma between two.
use Rattle.std.proofs.Common.{◌≡◌, ℕ, ◌+◌, ◌<◌, ◌≤◌, List, ◌++◌, length, get_or, take, append_assoc, arith, flat_map, min, zip, Result, Ok, Err, OnOk, is_ok, if◌then◌else◌}
use Rattle.std.specs.List.{enumerate_from}
use Rattle.std.proofs.lemmas.{Grind.common_steps, List.take_all, List.FromFn.length-enumerate_from, Slice.Zip.get_or-zip, Slice.Zip.length-zip}
use Rattle.msg_log_json.specs.Prelude.{comma_before, list_item, numbered}
use Rattle.msg_json.proofs.NumberedPieces.{numbered_more}

module _ {X : Type 0} (f : ℕ × X → List ℕ) (xs : List X) where
  -- the first k elements
  abbrev pub first_of : ℕ → List ℕ
  first_of k = flat_map (list_item f) (take k (enumerate_from 0 xs))

  -- one element more
  pub one_more : (k : ℕ) (x : X) (before now mid next : List ℕ) → now ≡ before ++ first_of k
      → mid ≡ now ++ comma_before k → next ≡ mid ++ f (k, x) → x ≡ get_or xs k x → k < length xs
      → next ≡ before ++ first_of (k + 1)
  one_more k x before now mid next made comma item is lt =
      let joined : next ≡ now ++ (comma_before k ++ f (k, x)) = grind (arith, append_assoc) in
      numbered_more (list_item f) 0 xs k k x before now next made (rw (← is) joined) (omega arith) lt

  -- all of them
  pub all_made : (k : ℕ) (before now : List ℕ) → now ≡ before ++ first_of k → length xs ≤ k
      → now ≡ before ++ numbered f xs
  unfolding numbered
  all_made k before now made done = grind (arith, common_steps, take_all, length-enumerate_from)

module _ {A B : Type 0} (f : ℕ × (A × B) → List ℕ) (xs : List A) (ys : List B) where
  -- one pair of two lists more
  pub one_pair_more : (k : ℕ) (x : A) (y : B) (before now mid next : List ℕ)
      → now ≡ before ++ first_of f (zip xs ys) k → mid ≡ now ++ comma_before k
      → next ≡ mid ++ f (k, (x, y)) → x ≡ get_or xs k x → y ≡ get_or ys k y
      → k < min (length xs) (length ys) → next ≡ before ++ first_of f (zip xs ys) (k + 1)
  one_pair_more k x y before now mid next made comma item one other lt =
      let pair = get_or-zip xs ys k (x, y) (omega (arith, lt)) (omega (arith, lt)) in
      let is : (x, y) ≡ get_or (zip xs ys) k (x, y) = grind (arith, pair, one, other) in
      let within : k < length (zip xs ys) = omega (arith, length-zip xs ys, lt) in
      one_more f (zip xs ys) k (x, y) before now mid next made comma item is within

  -- all of them
  pub all_pairs_made : (k : ℕ) (before now : List ℕ) → now ≡ before ++ first_of f (zip xs ys) k
      → min (length xs) (length ys) ≤ k → now ≡ before ++ numbered f (zip xs ys)
  all_pairs_made k before now made done =
      all_made f (zip xs ys) k before now made (omega (arith, length-zip xs ys, done))

-- ---- pieces one after another

-- what was added, if there was room for it
pub extended : {T E : Type 0} (r : Result T E) (new old more : List ℕ)
    → new ≡ (if is_ok r then old ++ more else old) → OnOk r (new ≡ old ++ more)
extended (Ok u) new old more is = is
extended (Err e) new old more is = tt

-- three
pub three_pieces : (old a b c one two new : List ℕ) → one ≡ old ++ a → two ≡ one ++ b → new ≡ two ++ c
    → new ≡ old ++ (a ++ (b ++ c))
three_pieces old a b c one two new first second third = grind (arith, append_assoc)

-- five
pub five_pieces : (old a b c d e one two three four new : List ℕ) → one ≡ old ++ a → two ≡ one ++ b → three ≡ two ++ c
    → four ≡ three ++ d → new ≡ four ++ e → new ≡ old ++ (a ++ b ++ c ++ d ++ e)
five_pieces old a b c d e one two three four new first second third fourth fifth = grind (arith, append_assoc)

-- a line that ends in two objects, each between two pieces
pub line_pieces : (old a n h b t c d r e one two three new : List ℕ) → one ≡ old ++ (a ++ n) → two ≡ one ++ h
    → three ≡ two ++ (b ++ t ++ c ++ d ++ r ++ c) → new ≡ three ++ e
    → new ≡ old ++ (a ++ n ++ h ++ (b ++ t ++ c) ++ (d ++ r ++ c) ++ e)
line_pieces old a n h b t c d r e one two three new first second third fourth = grind (arith, append_assoc)
