use Rattle.std.proofs.Common.{arith, ◌∙◌}
use Rattle.msg_exec.proofs.EngineRunsFrames.{is_alive}
use Rattle.msg_serve.proofs.AnswersInTurn.{is_engine}
use Rattle.msg_serve.proofs.server.tell_frame.Goals as goal

pub unreachable-requires : goal.unreachable-requires
unreachable-requires g c =
    let serves = c.requires.serves in
    let alive = is_alive g.X.SystemOf.meaning c.args.server.now.engine serves.now serves.stands in
    grind (arith, alive)

pub add_frame_line-requires : goal.add_frame_line-requires
add_frame_line-requires g c =
    let serves = c.requires.serves in
    record {
      whole = c.in-Some.ensures.whole (is_engine g.X.SystemOf.meaning c.args.server.now serves);
      few_types = serves.runnable.few_types;
      few_resources = serves.runnable.few_resources;
      types = c.in-Some.ensures.types serves.now serves.stands ∙ serves.same.types;
      resources = c.in-Some.ensures.resources serves.now serves.stands ∙ serves.same.resources;
    }
