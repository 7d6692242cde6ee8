-- How an engine keeps totals: each number within `u64`. Of what readers got, missed and cleared no
-- number of a run is past it, so that what callers see of it is exact.
use Rattle.std.specs.Prelude.{ℕ, ◌-◌, ◌^◌, min, List, slice_index_or}
use Rattle.msg_frames.specs.declared.totals.Totals.{Totals}
use Rattle.msg_frames.specs.Prelude.{no_totals}

-- the number, or the greatest `u64` if it is more
abbrev pub within_u64 : ℕ → ℕ
within_u64 n = min n (2 ^ 64 - 1)

-- the totals as they are kept
abbrev pub capped_totals : Totals → Totals
capped_totals x =
    record x {
      got = within_u64 x.got;
      missed = within_u64 x.missed;
      cleared = within_u64 x.cleared;
      refused = within_u64 x.refused;
    }

-- the totals of type t; past the end of the list, those of a reader that was given nothing
abbrev pub totals_at : List Totals → ℕ → Totals
totals_at xs t = slice_index_or xs t no_totals
