use Rattle.std.proofs.lemmas.{Grind.common_steps, List.append-nil, List.length-map, List.take-map, List.take_at, List.take_all}
use Rattle.std.proofs.Common.{◌≡◌, ℕ, ◌++◌, List, length, map, min, take, Option, sym, arith, unwrap_or}
use Rattle.msg_buffer.specs.{Prelude.at_most, declared.instance.Instance.Instance}
use Rattle.msg_system.proofs.reading.read_unread.Goals as goal

-- as many were copied as were asked for
enough_copied : {M X : Type 0} (f : Instance M → X) (unread : List (Instance M)) (copied : List X) (limit : Option ℕ)
    (rest : List (Instance M)) → map f unread ≡ copied ++ map f rest
    → length copied ≡ min (unwrap_or limit (length unread)) (length unread) → copied ≡ map f (at_most limit unread)
enough_copied f unread copied limit rest split long =
    let n : ℕ = min (unwrap_or limit (length unread)) (length unread) in
    let same : take n unread ≡ at_most limit unread = grind (arith, take_all) in
    rw (← same, ← take-map, split) (sym (take_at copied (map f rest) n long))

pub returns-clause-took : goal.returns-clause-took
returns-clause-took g c h stands = grind (arith, common_steps, enough_copied, append-nil, length-map, c.missed-missed.ensures.meaning h stands)

pub returns-clause-place : goal.returns-clause-place
returns-clause-place g c h stands =
    grind (arith, c.read-rest.ensures.first h stands, returns-clause-took g c h stands, length-map, c.from_vec.ensures.items)
