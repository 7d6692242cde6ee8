use Rattle.msg_function.proofs.Steps.{covers_answer}
use Rattle.msg_function.proofs.turn.write_list.Goals as goal

pub do_op-requires : goal.do_op-requires
do_op-requires g c = record {
  covers = covers_answer c.args.port c.args.list.now.items c.in-Some.op _ c.in-Some.ensures.op c.requires.written;
}
