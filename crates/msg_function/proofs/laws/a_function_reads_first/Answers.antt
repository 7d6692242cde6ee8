use Rattle.msg_function.proofs.FunctionTurns.{reads_first}
use Rattle.msg_function.proofs.laws.a_function_reads_first.Goals as goal

pub returns : goal.returns
returns g c = record {
  law = λ reads writes kept start writer places last few. reads_first g.T.Function.answers reads writes kept start writer places last few;
}
