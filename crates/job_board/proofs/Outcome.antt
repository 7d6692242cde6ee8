-- The lawful outcome of squaring is the list of squares.
use Rattle.std.proofs.Common.{◌≡◌, ℕ, ◌*◌, ◌<◌, List, get_or, map, subst, sym, ◌∙◌}
use Rattle.std.proofs.lemmas.{List.ext_get_or, List.get_or-map, List.length-map, Option.slice_get-get_or}
use Rattle.msg_board.specs.Prelude.{IsLawfulOutcome}

pub are_squares : (jobs done : List ℕ) → IsLawfulOutcome (λ n s. s ≡ n * n) jobs done → done ≡ map (λ n. n * n) jobs
are_squares jobs done told =
    ext_get_or 0 done (map (λ n. n * n) jobs) (told.as_many ∙ sym (length-map jobs (λ n. n * n))) (λ k within.
    let below = subst (λ n. k < n) told.as_many within in
    told.each k (get_or jobs k 0) (get_or done k 0) (slice_get-get_or jobs k 0 below) (slice_get-get_or done k 0 within)
    ∙ sym (get_or-map (λ n. n * n) jobs k 0 0 below))
