use Rattle.std.proofs.Common.{codes}
use Rattle.std.proofs.lemmas.Result.{on_ok_weaker}
use Rattle.msg_log_json.proofs.Lists.{extended, three_pieces}
use Rattle.msg_log_json.proofs.turn.add_replies.Goals as goal

pub returns : goal.returns
returns c = record {
  appends = on_ok_weaker c.extend_from_slice-2.result
      (λ made. three_pieces c.args.text.now.items (codes ",\"replies\":[") _ (codes "]") _ _ _ c.in_ok-extend_from_slice.ensures.items
      (rw c.as_slice.ensures.items at c.in_ok-add_answers.ensures.appends) made)
      (extended c.extend_from_slice-2.result _ c.add_answers.new.text.items (codes "]") c.extend_from_slice-2.ensures.items);
}
