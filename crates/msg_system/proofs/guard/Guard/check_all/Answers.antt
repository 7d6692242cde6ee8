use Rattle.std.proofs.Common.{◌≡◌, ◌&&◌, ◌++◌, List, [], ◌∷◌, refl, ◌<◌, ◌+◌, ℕ, arith, drop, get_or, length, ◌∙◌}
use Rattle.std.proofs.{Math.Bool.and-true, Math.Seq.map-set_same, lemmas.Grind.drop_more_same, lemmas.List.drop-set-lt, lemmas.List.drop_more, lemmas.List.get_or-map, lemmas.List.length-map, lemmas.List.map_push, lemmas.List.take_more, lemmas.List.take_more_set}
use Rattle.msg_world.specs.Prelude.{Values, WorldState}
use Rattle.msg_system.specs.Prelude.{answer, all_hold, Asked}
use Rattle.msg_system.proofs.guard.Guard.check_all.Goals as goal

-- what isn't reached yet is as it was
not_reached : {V : Type 0} (xs ys : List (Asked V)) (i : ℕ) → drop i ys ≡ drop i xs → i < length xs → i < length ys → (d : Asked V)
    → get_or ys i d ≡ get_or xs i d
not_reached xs ys i rest lx ly d = grind (arith, drop_more xs i d lx, drop_more ys i d ly)

-- one condition more
all_hold-snoc : {V : Type 0} {values : Values V} (xs : List (Asked V)) (x : Asked V) (s : WorldState values) → all_hold (xs ++ x ∷ []) s
    ≡ (all_hold xs s && answer x s)
all_hold-snoc [] x s = and-true (answer x s)
all_hold-snoc (y ∷ xs) x s = grind (arith, all_hold-snoc xs x s)

pub check-all-requires : goal.check-all-requires
check-all-requires g c =
    let xs = c.args.guards.now in let i = c.loop-guard.guard-index in let d = c.guard-item.result in
    let lx : i < length xs = omega arith in
    let here = not_reached xs _ i c.loop-guard.invariant.rest lx (omega arith) d in
    let covers = c.requires.covers i d.condition (omega (arith, lx, length-map xs (λ a. a.condition))) in
    record { covers = rw (get_or-map (λ a. a.condition) xs i d d.condition lx, ← here) at covers }

pub loop-guard-preserved : goal.loop-guard-preserved
loop-guard-preserved g c =
    let xs = c.args.guards.now in let ys = c.loop-guard.guards in let i = c.loop-guard.guard-index in
    let d = c.guard-item.result in let inv = c.loop-guard.invariant in
    let lx : i < length xs = omega arith in let ly : i < length ys = omega arith in
    let here = not_reached xs ys i inv.rest lx ly d in
    record {
      answer = λ s stands.
          rw (take_more xs i d lx, all_hold-snoc, inv.answer s stands, c.check-all.ensures.answer s stands, here) refl;
      moved = λ s stands.
          let moved = c.check-all.ensures.moved s stands in
          rw (take_more_set ys i _ ly, take_more xs i d lx, map_push, inv.moved s stands, ← here, ← moved) refl;
      same = map-set_same (λ (a : Asked g.row.V.Denot). a.condition) ys i c.check-all.new.self d c.check-all.ensures.same ∙ inv.same;
      rest = drop-set-lt (i + 1) ys i c.check-all.new.self (omega arith) ∙ drop_more_same ys xs i inv.rest;
    }
