use Rattle.msg_system.specs.Prelude.{cursor_places}
use Rattle.msg_function.proofs.FunctionTurns.{is_whole}
use Rattle.msg_function.proofs.never_cut.FunctionSystemNeverCut.no_turn_is_cut.Goals as goal

pub returns : goal.returns
returns g c =
    let system = c.args.self.now in record {
      law = λ s.
          (is_whole g.T.Function.answers system.reads system.writes system.few
          (record { memory = system.function; refused = system.refused.items }) system.start system.me.writer (cursor_places system.me.cursors) _ s).uncut;
    }
