use Rattle.msg_system.proofs.FootprintsHold.{condition_footprint, job_footprint, op_footprint, program_footprint, turn_footprint}
use Rattle.msg_system.proofs.laws.nothing_else_is_used.Goals as goal

pub returns : goal.returns
returns g c = record {
  ops = op_footprint;
  programs = program_footprint;
  turns = turn_footprint;
  conditions = condition_footprint;
  jobs = job_footprint;
}
