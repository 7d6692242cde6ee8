use Rattle.std.proofs.Common.{◌≡◌, Err}
use Rattle.msg_calls.specs.Prelude.{file_of}
use Rattle.msg_json.proofs.FaultsOfFiles.{refused_for}
use Rattle.msg_calls.proofs.calls.read.read_calls.Goals as goal

pub returns-in-Err-clause-refused : goal.returns-in-Err-clause-refused
returns-in-Err-clause-refused c = rw c.refusal.ensures.refusal (refused_for (λ d e. file_of d ≡ Err e) _ _ c.in-Err.ensures.fault)
