-- How entries add up in an account.
use Rattle.std.proofs.Common.{List, None, [], arith, flat_map, length, ℕ, ◌++◌, ◌+◌, ◌∷◌, ◌≡◌}
use Rattle.std.proofs.lemmas.{Bool.cases_Bool, Grind.flat_map-append, List.length-append, List.FromFn.length-range_with_len, List.Sums.sum_by-append}
use Rattle.msg_buffer.specs.Prelude.{Stretch}
use Rattle.msg_system.specs.{Prelude.Step, declared.reply.Took.Took}
use Rattle.msg_world.specs.Prelude.{Values}
use Rattle.msg_frames.specs.Prelude.{ReadEntry, Totals, entry_of_read, numbers_cleared, numbers_given, numbers_missed, entry_numbers, with_entries, with_steps}

pub with_entries-none : (V : Type 0) (x : Totals) → with_entries {V = V} [] x ≡ x
with_entries-none V x = grind arith

module _ {V : Type 0} where
  pub with_entries-append : (es fs : List (ReadEntry V)) (x : Totals) → with_entries (es ++ fs) x
      ≡ with_entries fs (with_entries es x)
  with_entries-append es fs x = grind (arith, flat_map-append, length-append)

  -- what first these steps tell, and then those
  pub with_steps-append : {values : Values V} (t : ℕ) (xs ys : List (Step values)) (x : Totals)
      → with_steps t (xs ++ ys) x ≡ with_steps t ys (with_steps t xs x)
  with_steps-append t xs ys x = grind (arith, flat_map-append, length-append, sum_by-append)

  pub with_steps-none : (values : Values V) (t : ℕ) (x : Totals) → with_steps {values = values} t [] x ≡ x
  with_steps-none values t x = grind arith

  -- what one op that read adds, and what one clear
  pub with_read : (took : Took V) (x : Totals) → with_entries (entry_of_read took ∷ []) x
      ≡ record x { got = x.got + length took.items; missed = x.missed + took.missed }
  with_read took x = grind (arith, length-append, length-range_with_len)

pub with_clear : (V : Type 0) (gone first n : ℕ) (x : Totals) →
    let stretch : Stretch = record { missed = gone; first = first; number = n } in
    with_entries {V = V} (record { stretch = stretch; given = None } ∷ []) x
    ≡ record x { missed = x.missed + gone; cleared = x.cleared + n }
with_clear V gone first n x = grind (arith, length-append, length-range_with_len)

module _ {V : Type 0} where
  -- the numbers given, missed and cleared are all that entries tell
  pub all_told : (es : List (ReadEntry V)) → length (flat_map entry_numbers es)
      ≡ length (flat_map numbers_given es) + length (flat_map numbers_missed es) + length (flat_map numbers_cleared es)
  all_told [] = grind arith
  all_told (e ∷ es) = grind (arith, cases_Bool, length-append, length-range_with_len, all_told es)
