use Rattle.std.proofs.Common.{◌≡◌, ◌+◌, ◌++◌, ◌∷◌, ◌∙◌, [], refl, sym, take}
use Rattle.std.proofs.lemmas.List.{take_more}
use Rattle.msg_function.proofs.Putting.{put_none, put_passing}
use Rattle.msg_function.proofs.ready.filter.FilterFunction11.answer.Goals as goal

pub loop-message-init : goal.loop-message-init
loop-message-init g c = record { same = refl; written = c.requires.empty ∙ sym (put_none 0) }

pub loop-message-preserved : goal.loop-message-preserved
loop-message-preserved g c =
    let items = c.read-message-items.result.now in
    let k = c.loop-message.message-index in
    let more : take (k + 1) items ≡ take k items ++ c.message-item.result ∷ [] =
    rw (take_more items k c.message-item.result c.loop-message-test.true, ← c.message-item.is) refl in
    record {
      same = refl;
      written = rw more (c.in_ok-write_if.ensures.written
          ∙ put_passing (g.T.Test.passes c.args.self.now.test) (take k items) c.message-item.result _ c.loop-message.invariant.written);
    }
