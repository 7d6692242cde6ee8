-- What is put into an answer.
use Rattle.std.proofs.Common.{◌≡◌, ℕ, ◌++◌, Bool, true, false, List, [], ◌∷◌, arith, append_assoc, filter, if◌then◌else◌, refl}
use Rattle.std.proofs.{Math.Path.fun_ext, lemmas.Bool.cases_Bool, lemmas.List.Elements.filter-append, lemmas.List.append-nil, lemmas.List.map-append}
use Rattle.msg_world.specs.declared.record.Record.{Record}
use Rattle.msg_function.specs.{Functions.Answer, Functions.nothing, Functions.put, Functions.put_all, Ready.values_of}

module _ {V : Type 0} where
  -- no values are nothing
  pub put_none : (k : ℕ) → put_all {V = V} k [] nothing ≡ nothing
  put_none k = fun_ext (λ j. grind (arith, cases_Bool))

  -- values and then others
  pub put_more : (k : ℕ) (xs ys : List V) (a : Answer V) → put_all k ys (put_all k xs a) ≡ put_all k (xs ++ ys) a
  put_more k xs ys a = fun_ext (λ j. grind (arith, cases_Bool, append_assoc))

  one_passing : (b : Bool) (xs : List V) (v : V) → (if b then put 0 v (put_all 0 xs nothing) else put_all 0 xs nothing)
      ≡ put_all 0 (xs ++ (if b then v ∷ [] else [])) nothing
  one_passing true xs v = put_more 0 xs (v ∷ []) nothing
  one_passing false xs v = rw append-nil refl

  -- one value more, if it passes
  pub put_passing : (p : V → Bool) (ms : List (Record V)) (m : Record V) (old : Answer V)
      → old ≡ put_all 0 (filter p (values_of ms)) nothing
      → (if p m.value then put 0 m.value old else old) ≡ put_all 0 (filter p (values_of (ms ++ m ∷ []))) nothing
  put_passing p ms m old is =
      rw (is, map-append, filter-append) (one_passing (p m.value) (filter p (values_of ms)) m.value)
