-- A text that is made piece by piece.
use Rattle.std.proofs.Common.{◌≡◌, ◌⊎◌, inl, inr, List, [], ◌∷◌, ◌++◌, refl, append-nil, Option, None, flat_map, zip, ℕ}
use Rattle.std.specs.{declared.iter.Zip.Zip, declared.slice.Iter.Iter, Borrow.Bor, Iterator.Adapters.zip_first, Iterator.Adapters.zip_second, Slice.Iter.iter_rest}
use Rattle.std.proofs.lemmas.{Fn.fronts, Iterator.zips, Slice.Zip.either_empty_from_Zip}

-- ---- a loop over two lists side by side

module _ {A B : Type 0} where
  pub zip-nil : (ks : List A) → zip {X = B} ks [] ≡ []
  zip-nil [] = refl
  zip-nil (k ∷ ks) = refl

module _ {A B : Type 0} (piece : A × B → List ℕ) where
  -- the pieces that are left
  abbrev pub pieces_left : Zip (Iter A) (Iter B) → List ℕ
  pieces_left both = flat_map piece (zip (iter_rest (zip_first both)) (iter_rest (zip_second both)))

  -- no pair is left
  pub no_pair_left : (both both' : Zip (Iter A) (Iter B)) (next : Option (Bor A × Bor B)) (now all : List ℕ)
      → next ≡ None → zips fronts fronts both next both' → now ++ pieces_left both ≡ all → now ≡ all
  no_pair_left both both' next now all is step made =
      rw (empty (either_empty_from_Zip both both' next is step), append-nil) at made
    where
      empty : (iter_rest (zip_first both) ≡ []) ⊎ (iter_rest (zip_second both) ≡ []) → pieces_left both ≡ []
      empty (inl h) = rw h refl
      empty (inr h) = rw (h, zip-nil) refl
