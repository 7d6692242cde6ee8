use Rattle.msg_board.proofs.Steps.{held_alone}
use Rattle.msg_board.proofs.laws.each_number_is_held_alone.Goals as goal

pub returns : goal.returns
returns g c = record { alone = λ jobs passes s k law. held_alone g.W.Work.lawful jobs passes s k law }
