use Rattle.std.proofs.Common.{Bool, FitsSigned, ap, false, if◌then◌else◌, negsuc, pos, refl, true, w64, ◌∙◌}
use Rattle.std.proofs.Math.Facts.{sfits_lit, to_z-of_z}
use Rattle.msg_function.specs.Prelude.{put}
use Rattle.msg_engine_tests.proofs.functions.TellerFunction12.answer.Goals as goal

-- what it tells is an `i64`
told_fits : (a b : Bool) → FitsSigned w64 (if a then negsuc 0 else (if b then pos 5 else pos 0))
told_fits true b = sfits_lit tt
told_fits false true = sfits_lit tt
told_fits false false = sfits_lit tt

pub returns : goal.returns
returns c =
    let last = rw (c.spent.ensures.spent, c.missed.ensures.missed) at c.told.ensures in
    let second = rw (to_z-of_z {w = w64} {z = c.told.result} (rw last (told_fits _ _))) at c.in_ok-write-2.ensures.put in
    let all = c.in_ok-write-3.ensures.put ∙ ap (put 0 (pos 1)) (second
    ∙ ap (put 1 c.told.result) (c.in_ok-write.ensures.put ∙ ap (put 1 (pos 7)) c.requires.empty)) in
    record { answers = rw (all, last) refl }
