use Rattle.std.proofs.Common.{◌++◌, [], ◌∷◌, refl, ◌∙◌, append_assoc, arith}
use Rattle.std.proofs.lemmas.{Fn.says_at, List.length-take, List.take_more, Slice.Zip.AllZip-long, Slice.Zip.all_zipped_more}
use Rattle.msg_buffer.proofs.Numbers.{numbered-append}
use Rattle.msg_buffer.proofs.batch.append_each.Goals as goal

pub loop-item-preserved : goal.loop-item-preserved
loop-item-preserved g c =
    let at = c.loop-item in
    let made = at.invariant.3 in
    let m = c.message_of-message.result in
    let long = AllZip-long _ _ made.0 made.1 ∙ length-take at.item-index c.args.items.now in (
      omega arith,
      omega (arith, c.push_reserved.ensures.len),
      omega (arith, c.push_reserved.ensures.capacity),
      (
        made.0 ++ m ∷ [],
        rw (take_more c.args.items.now at.item-index c.item-item.result c.loop-item-test.true, ← c.item-item.is)
            (all_zipped_more _ _ _ _ _ made.1 (says_at g.F.Fn c.message_of-message.ensures refl)),
        grind (arith, append_assoc, numbered-append, long, c.push_reserved.ensures.items, made.2),
      ),
    )
