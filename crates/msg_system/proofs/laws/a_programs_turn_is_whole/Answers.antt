use Rattle.msg_system.specs.Prelude.{cursor_places}
use Rattle.msg_system.proofs.WholeTurns.{program_is_whole}
use Rattle.msg_system.proofs.laws.a_programs_turn_is_whole.Goals as goal

pub returns : goal.returns
returns g c = record {
  law = λ s. program_is_whole c.args.system.now.program c.args.system.now.writer (cursor_places c.args.system.now.cursors) s c.args.system.now.few;
}
