-- What replies tell of a reader: the system's rule says which op each of them answers.
use Rattle.std.specs.Prelude.{List, [], ℕ, ◌++◌, ◌∷◌}
use Rattle.msg_system.specs.{Prelude.Needs, Prelude.OpRule, Prelude.next_done, Prelude.ops_answered, declared.op.Op.Op, declared.reply.Reply.Reply}
use Rattle.msg_frames.specs.{Entries.ReadEntry, Entries.entry_for, Entries.refused_for, Entries.with_entries, Entries.with_refused, declared.totals.Totals.Totals}

module _ {V : Type 0} where
  -- the entries for a type among the replies to these ops
  abbrev pub entries_for : ℕ → List (Op V) → List (Reply V) → List (ReadEntry V)
  entries_for t (op ∷ ops) (reply ∷ replies) = entry_for t op reply ++ entries_for t ops replies
  entries_for t _ _ = []

  -- the totals for a type with what one op was answered
  abbrev pub with_answer : ℕ → Op V → Reply V → Totals → Totals
  with_answer t op reply x =
      with_refused (refused_for t op reply) (with_entries (entry_for t op reply) x)

  -- the totals for a type with what these ops were answered, one after the other
  abbrev pub with_answers : ℕ → List (Op V) → List (Reply V) → Totals → Totals
  with_answers t (op ∷ ops) (reply ∷ replies) x =
      with_answers t ops replies (with_answer t op reply x)
  with_answers t _ _ x = x

  -- the ops that were done of a system's next turn, if these are the replies
  abbrev pub ops_by : Needs → OpRule V → List (Reply V) → List (Op V)
  ops_by n rule replies = ops_answered (next_done n (rule [])) replies

  -- The entries for a type of a system whose turns, one after the other, have these replies.
  abbrev pub entries_of_turns : ℕ → Needs → OpRule V → List (List (Reply V)) → List (ReadEntry V)
  entries_of_turns t n rule [] = []
  entries_of_turns t n rule (replies ∷ turns) = entries_for t (ops_by n rule replies) replies
      ++ entries_of_turns t n (λ later now. rule (replies ∷ later) now) turns
