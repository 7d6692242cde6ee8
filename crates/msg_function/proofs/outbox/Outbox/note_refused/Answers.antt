use Rattle.std.proofs.Common.{◌≡◌, ◌<◌, ◌∙◌, arith, false, inl, inr, length, take}
use Rattle.std.proofs.lemmas.Bool.{cases_eq}
use Rattle.std.proofs.lemmas.List.{get_or-set_other, get_or-set_same, length-take-le}
use Rattle.std.proofs.lemmas.List.FromFn.{fill_by_all}
use Rattle.msg_function.specs.Functions.{answered, was_refused}
use Rattle.msg_function.proofs.{Lists.list_at, Written.few_writes, Written.more_written}
use Rattle.msg_function.proofs.outbox.Outbox.note_refused.Goals as goal

pub overflow_add-written : goal.overflow_add-written
overflow_add-written g c =
    let ports = c.args.ports.now in
    let few = few_writes (take c.loop-k.k ports) (answered c.args.self.now) in
    omega (
      arith,
      few,
      c.loop-k.invariant.written,
      length-take-le c.loop-k.k ports (omega (arith, c.loop-k-test.true)),
      c.op_count-written.ensures.few,
      c.loop-k-test.true,
    )

pub loop-k-preserved : goal.loop-k-preserved
loop-k-preserved g c =
    let ports = c.args.ports.now in let k = c.loop-k.k in let inv = c.loop-k.invariant in
    let answer = answered c.args.self.now in
    let lt : k < length c.args.self.now.lists.items = omega (arith, c.loop-k-test.true, c.args.self.now.one_each, c.requires.within) in
    let here : c.as_slice-values.result.now ≡ answer k =
    c.as_slice-values.ensures.value ∙ list_at (λ x. x.items) c.args.self.now.lists.items k c.index.result.now lt c.index.ensures in
    let told : c.is_refused.result ≡ was_refused ports answer c.args.replies.now k =
    rw (here, inv.written) at c.is_refused.ensures.refused in
    let within : k < length c.loop-k.refused = omega (arith, c.loop-k-test.true, c.loop-k.auto.refused, c.requires.one_each, c.requires.within) in
    let more = more_written ports answer k c.op_count-written.result c.loop-k-test.true (λ port. rw here at (c.op_count-written.ensures.count port)) in
    record {
      noted = λ j below. elim (cases_eq j k) [
        | inl e ↦ grind (arith, e, within, told, get_or-set_same)
        | inr ne ↦ grind (arith, ne, below, inv.noted j, get_or-set_other)
      ];
      written = omega (arith, inv.written, more);
    }

pub returns : goal.returns
returns g c =
    let ports = c.args.ports.now in
    record {
      noted = fill_by_all (was_refused ports (answered c.args.self.now) c.args.replies.now) c.loop-k.refused (length ports) false
          (omega (arith, c.loop-k.auto.refused, c.requires.one_each, c.requires.within))
          (λ j below. c.loop-k.invariant.noted j (omega (arith, below, c.loop-k-test.false)));
    }
