use Rattle.msg_exec.proofs.SinceThen.{exact_then, frames_and_one, frames_none}
use Rattle.msg_exec.proofs.engine_laws.frames_run_one_by_one.Goals as goal

pub returns : goal.returns
returns g c =
    let m = g.S.SystemOf.meaning in record { none = frames_none m; more = frames_and_one m; exact = exact_then m }
