-- What a behavior does, turn after turn.
use Rattle.std.specs.Prelude.{ℕ, List, [], Option, None, Some, fold}
use Rattle.msg_world.specs.declared.record.Record.{Record}
use Rattle.msg_system.specs.{declared.op.Op.Op, declared.reply.Reply.Reply, declared.start.Start.Start, Needs.Needs, Programs.reply_took, Systems.Meaning, Systems.OpRule}

module _ {V : Type 0} where
  -- Its rule: the next op by what it remembers of the turns that it took, one after the other, and
  -- by the replies so far.
  abbrev pub behaves : {M : Type 0} → (M → List (Reply V) → Option (Op V))
      → (M → List (Reply V) → M) → M → OpRule V
  behaves next remember memory turns replies = next (fold remember memory turns) replies

  -- a system that goes by a rule and was given nothing yet
  abbrev pub new_by_rule : Needs → Start → ℕ → OpRule V → Meaning V
  new_by_rule needs start writer rule = record {
    needs = needs;
    start = start;
    writer = writer;
    places = λ t. 0;
    rule = rule;
    last = [];
  }

  -- the messages that a reply brought: those that its op read
  abbrev pub brought : Option (Reply V) → List (Record V)
  brought None = []
  brought (Some reply) = elim (reply_took reply) [ None ↦ [] | Some taken ↦ taken.items ]
