use Rattle.std.proofs.Common.{◌+◌, ◌*◌, length}
use Rattle.msg_workers.proofs.run_workers.+workers.Given as goal

abbrev pub decreases-work_beside-own : goal.decreases-work_beside-own
decreases-work_beside-own g l = 4 * length l.rest.now + 3

abbrev pub decreases-work_beside-theirs : goal.decreases-work_beside-theirs
decreases-work_beside-theirs g l = 4 * length l.beside.now + 1

abbrev pub decreases-work_beside : goal.decreases-work_beside
decreases-work_beside g l = 4 * length l.others.now + 2

abbrev pub decreases-work_from : goal.decreases-work_from
decreases-work_from g l = 4 * length l.passes.now
