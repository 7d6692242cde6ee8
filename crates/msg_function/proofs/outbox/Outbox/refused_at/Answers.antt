use Rattle.std.proofs.Common.{◌≡◌, ◌<◌, ◌≤◌, ◌∙◌, None, ap, arith, length, option_and_then, refl, slice_get, sym, take}
use Rattle.std.proofs.lemmas.List.{take_all}
use Rattle.std.proofs.lemmas.Option.{slice_get_past, slice_get_read}
use Rattle.msg_system.specs.Prelude.{refused_by}
use Rattle.msg_function.specs.Functions.{answered, written_ops}
use Rattle.msg_function.proofs.{Lists.list_at, Written.more_written, Written.written_at}
use Rattle.msg_function.proofs.outbox.Outbox.refused_at.Goals as goal

pub returns-then-before-count : goal.returns-then-before-count
returns-then-before-count g c =
    let ports = c.args.ports.now in let k = c.loop-k.k in let port = c.index-ports-k.result in
    let answer = answered c.args.self.now in
    let ops = written_ops ports answer in
    let lt : k < length c.args.self.now.lists.items = omega (arith, c.loop-k-test.true, c.args.self.now.one_each, c.requires.within) in
    let here : c.as_slice-values.result.now ≡ answer k =
    c.as_slice-values.ensures.value ∙ list_at (λ x. x.items) c.args.self.now.lists.items k c.index.result.now lt c.index.ensures in
    let some = rw here at (c.op_count-count.ensures.some (omega (arith, c.if-before-count.true))) in
    let there = written_at ports answer k port (slice_get_read ports (length ports) k port refl c.loop-k-test.true c.index-ports-k.is) some in
    let at : c.args.place ≡ length (written_ops (take k ports) answer) =
    omega (arith, c.loop-k.invariant, c.if-before-count.true, c.op_count-count.ensures.few) in
    record {
      refused = c.refused_of.ensures.refused (answer k) there.0 (sym (ap length here))
          ∙ sym (ap (λ o. option_and_then (λ op. refused_by op c.args.reply.now) o) (ap (slice_get ops) at ∙ there.1));
    }

pub loop-k-preserved : goal.loop-k-preserved
loop-k-preserved g c =
    let ports = c.args.ports.now in let k = c.loop-k.k in
    let answer = answered c.args.self.now in
    let lt : k < length c.args.self.now.lists.items = omega (arith, c.loop-k-test.true, c.args.self.now.one_each, c.requires.within) in
    let here : c.as_slice-values.result.now ≡ answer k =
    c.as_slice-values.ensures.value ∙ list_at (λ x. x.items) c.args.self.now.lists.items k c.index.result.now lt c.index.ensures in
    let more = more_written ports answer k c.op_count-count.result c.loop-k-test.true (λ port. rw here at (c.op_count-count.ensures.count port)) in
    omega (arith, c.loop-k.invariant, c.if-before-count.false, more)

pub returns : goal.returns
returns g c =
    let ports = c.args.ports.now in let ops = written_ops ports (answered c.args.self.now) in
    let all : take c.loop-k.k ports ≡ ports = take_all c.loop-k.k ports c.loop-k-test.false in
    let at = rw all at c.loop-k.invariant in
    let far : length ops ≤ c.args.place = omega (arith, at) in
    let past : slice_get ops c.args.place ≡ None = slice_get_past ops c.args.place far in
    record { refused = sym (ap (λ o. option_and_then (λ op. refused_by op c.args.reply.now) o) past) }
