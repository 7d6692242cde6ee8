use Rattle.std.proofs.Common.{◌≡◌, ◌*◌, subst}
use Rattle.std.proofs.lemmas.Result.{IfOk-weaker}
use Rattle.msg_board.specs.Prelude.{IsLawfulOutcome}
use Rattle.job_board.proofs.Outcome.{are_squares}
use Rattle.job_board.proofs.squares.Goals as goal

pub returns : goal.returns
returns g c = record {
  squares = IfOk-weaker c.close.result _ _ (λ all told. are_squares _ all.items
      (subst (λ jobs. IsLawfulOutcome (λ n s. s ≡ n * n) jobs all.items) c.in_ok-board.ensures.jobs told))
      c.close.ensures.lawful;
}
