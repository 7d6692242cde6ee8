-- What the private functions of turns say. No public contract cites these.
use Rattle.std.specs.Prelude.{◌≡◌, List, length}
use Rattle.msg_world.specs.{Prelude.SameLoan, Prelude.Values, declared.lent.Lent.Lent}
use Rattle.msg_system.specs.{Prelude.cursor_places, declared.op.Op.Op, declared.op.Op.TheVariants.Batch, declared.reply.Reply.Reply, inner.TurnRuns.HasReplies, inner.TurnRuns.ProgramRan}
use Rattle.msg_function.specs.declared.identity.Identity.{Identity}

-- Ops ran one after the other, and their replies were appended.
pub record OpsRan {V : Type 0} (values : Values V) (ops : List (Op V)) (me me_after : Identity)
    (old new : Lent V) (before answers : List (Reply V)) : Type 0 where
  pub ran : ProgramRan values ops me.writer (cursor_places me.cursors)
      (cursor_places me_after.cursors) old new before answers
  pub replies : HasReplies before answers (length ops)
  pub same : SameLoan old new
  pub writer : me_after.writer ≡ me.writer

module _ {V : Type 0} where
  -- the values that a batch took from a list; another op left the list as it is
  abbrev pub restored : Op V → List V → List V
  restored (Batch t values) list = values
  restored _ list = list
