-- Lists whose elements have consecutive numbers.
use Rattle.std.proofs.Common.{◌≡◌, ℕ, suc, zero, ◌+◌, List, [], ◌∷◌, ◌++◌, length, map, drop, refl, ap, arith, slice_get}
use Rattle.std.specs.List.{enumerate_from}
use Rattle.std.proofs.lemmas.List.{length-map, map-append}
use Rattle.msg_buffer.specs.Prelude.{Entry, HasNumbersFrom, History, Instance, count, instance_of, instances, message_of, numbered}

pub slice_get-drop : {X : Type 0} (n : ℕ) (xs : List X) (i : ℕ) → slice_get (drop n xs) i ≡ slice_get xs (n + i)
slice_get-drop zero xs i = grind arith
slice_get-drop (suc n) [] i = grind arith
slice_get-drop (suc n) (x ∷ xs) i = grind (arith, slice_get-drop n xs i)

module _ {M : Type 0} where
  pub length-numbered : (n : ℕ) (xs : List M) → length (numbered n xs) ≡ length xs
  length-numbered n [] = refl
  length-numbered n (x ∷ xs) = ap suc (length-numbered (n + 1) xs)

  pub numbered-append : (n : ℕ) (xs ys : List M) → numbered n (xs ++ ys) ≡ numbered n xs ++ numbered (n + length xs) ys
  numbered-append n [] ys = grind arith
  numbered-append n (x ∷ xs) ys = grind (arith, numbered-append (n + 1) xs ys)

  pub messages-numbered : (n : ℕ) (xs : List M) → map message_of (numbered n xs) ≡ xs
  messages-numbered n [] = refl
  messages-numbered n (x ∷ xs) = ap (λ ys. x ∷ ys) (messages-numbered (n + 1) xs)

  -- more messages, numbered on
  pub numbers-append : (n k : ℕ) (xs : List (Instance M)) (ms : List M) → HasNumbersFrom n xs → k ≡ n + length xs
      → HasNumbersFrom n (xs ++ numbered k ms)
  numbers-append n k xs ms has at = grind (arith, length-map, map-append, messages-numbered, numbered-append)

  -- a history's instances are its messages, numbered
  pub instances-numbered : (n : ℕ) (es : List (Entry M)) → map instance_of (enumerate_from n es)
      ≡ numbered n (map (λ e. e.message) es)
  instances-numbered n [] = refl
  instances-numbered n (e ∷ es) = grind (arith, instances-numbered (n + 1) es)

  pub length-instances : (h : History M) → length (instances h) ≡ count h
  length-instances h = grind (arith, instances-numbered, length-map, length-numbered)
