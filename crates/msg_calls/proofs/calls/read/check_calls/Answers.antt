use Rattle.std.proofs.lemmas.Result.{err_from_is_err_and}
use Rattle.std.proofs.Common.{◌≡◌, Err}
use Rattle.msg_calls.specs.Prelude.{file_of}
use Rattle.msg_json.proofs.FaultsOfFiles.{unread_is_fault}
use Rattle.msg_calls.proofs.calls.read.check_calls.Goals as goal

pub returns-in_err-value-clause-fault : goal.returns-in_err-value-clause-fault
returns-in_err-value-clause-fault c =
    let passed = err_from_is_err_and c.from_residual.result c.from_residual.ensures.1 in
    rw (passed.1, passed.2) (unread_is_fault (λ d e. file_of d ≡ Err e) _ _ c.in_err-value.ensures.unread)
