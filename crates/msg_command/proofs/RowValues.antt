-- What the getters of clap's matches say, in rows.
use Rattle.std.proofs.Common.{◌≡◌, Option, sym, ◌∙◌}
use Rattle.clap.specs.{Words.Text, Words.first_of, Words.first_value, Words.found_of, Words.rows_of, declared.ArgMatches.ArgMatches}
use Rattle.clap.proofs.WalkLemmas.{first_value-rows}

-- what a getter finds is the row's value
pub row_value : (m : ArgMatches) (id : Text) (o : Option Text) → o ≡ first_value (found_of m) id
    → first_of id (rows_of (found_of m)) ≡ o
row_value m id o e = sym (first_value-rows (found_of m) id) ∙ sym e
