-- A text that is made of numbered pieces.
use Rattle.std.proofs.Common.{◌≡◌, ℕ, ◌+◌, ◌<◌, List, ◌++◌, length, get_or, take, arith, flat_map}
use Rattle.std.specs.List.{enumerate_from}
use Rattle.std.proofs.lemmas.{List.flat_map_more, List.take_more, List.FromFn.length-enumerate_from, List.FromFn.get_or-enumerate_from}

-- one numbered piece more
pub numbered_more : {X : Type 0} (piece : ℕ × X → List ℕ) (n : ℕ) (xs : List X) (i number : ℕ) (x : X)
    (before now next : List ℕ)
    → now ≡ before ++ flat_map piece (take i (enumerate_from n xs))
    → next ≡ now ++ piece (number, get_or xs i x) → number ≡ n + i
    → i < length xs → next ≡ before ++ flat_map piece (take (i + 1) (enumerate_from n xs))
numbered_more piece n xs i number x before now next made added at lt =
    let pieces = enumerate_from n xs in
    grind (
      arith,
      flat_map_more piece before (take i pieces) (get_or pieces i (n, x)),
      take_more pieces i (n, x),
      length-enumerate_from n xs,
      get_or-enumerate_from n xs i (n, x) lt,
    )
