-- The conditions of a scenario file.
use Rattle.std.proofs.Common.{◌≡◌, ℕ, suc, ◌+◌, ◌-◌, ◌≤◌, ◌<◌, arith, Some, None}
use Rattle.serde_json.specs.Data.{Data}
use Rattle.msg_reading.specs.Prelude.{in_not, inside_nots, nots_round}

-- so many `not`s were seen round this value, of `most` that are looked for
pub record NotsSeen (most : ℕ) (d : Data) (seen : ℕ) (inside : Data) : Type 0 where
  pub round : nots_round most d ≡ seen + nots_round (most - seen) inside
  pub inner : inside_nots most d ≡ inside_nots (most - seen) inside

module _ {most seen : ℕ} {d inside : Data} (so_far : NotsSeen most d seen inside) where
  pub NotsSeen-more : {inner : Data} → seen < most → in_not inside ≡ Some inner → NotsSeen most d (seen + 1) inner
  NotsSeen-more {inner} lt is =
      let left : most - seen ≡ suc (most - (seen + 1)) = omega arith in
      grind (arith, so_far.round, so_far.inner, left, is)

  pub NotsSeen-end : seen < most → in_not inside ≡ None → (seen ≡ nots_round most d) × (inside ≡ inside_nots most d)
  NotsSeen-end lt is =
      let left : most - seen ≡ suc (most - (seen + 1)) = omega arith in
      grind (arith, so_far.round, so_far.inner, left, is)

  pub NotsSeen-all : most ≤ seen → seen ≤ most → (most ≡ nots_round most d) × (inside ≡ inside_nots most d)
  NotsSeen-all le ge =
      let left : most - seen ≡ 0 = omega arith in
      grind (arith, so_far.round, so_far.inner, left)
