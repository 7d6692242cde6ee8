use Rattle.std.proofs.Common.{[], ◌∷◌, arith}
use Rattle.msg_frames.proofs.Functions.{run_keeps}
use Rattle.msg_serve.proofs.AnswersInTurn.{is_engine, only_memory}
use Rattle.msg_serve.proofs.server.run_frame.Goals as goal

pub run_frame-requires-clause-engine : goal.run_frame-requires-clause-engine
run_frame-requires-clause-engine g c κs within =
    is_engine g.X.SystemOf.meaning c.args.server.now c.requires.serves

pub returns-in-Err-clause-memory : goal.returns-in-Err-clause-memory
returns-in-Err-clause-memory g c =
    only_memory g.X.SystemOf.meaning c.args.server.now c.run_frame.result c.in-Err.fault c.requires.serves c.in-Err.is
    (λ e. c.run_frame.ensures.spoiled.0 e) c.run_frame.ensures.no_bad_order

pub tell_frame-requires : goal.tell_frame-requires
tell_frame-requires g c =
    let serves = c.requires.serves in
    let later = run_keeps (c.args.frame.now ∷ []) serves.now in
    record {
      serves = record {
        runnable = serves.runnable;
        now = _;
        stands = (c.in-Ok.ensures.ran serves.now serves.stands).stands;
        same = grind (arith, serves.same, later);
      };
    }
