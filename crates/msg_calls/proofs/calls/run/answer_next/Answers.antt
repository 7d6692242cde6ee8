use Rattle.std.proofs.Common.{refl, arith, ◌++◌, List, ℕ, Option, append-nil, append_assoc, []}
use Rattle.std.proofs.KnownBytes.{Appends-trans}
use Rattle.std.proofs.lemmas.{Grind.common_steps, Result.on_err_weaker, Result.on_ok_weaker}
use Rattle.msg_json.specs.Prelude.{AppendsPrefix}
use Rattle.msg_json.proofs.Puts.{AppendsPrefix_after, on_err}
use Rattle.msg_calls.specs.Prelude.{BufferState, line}
use Rattle.msg_calls.specs.inner.Running.{AreIn, TakesFront}
use Rattle.msg_calls.proofs.calls.run.answer_next.Goals as goal

-- a front of a text is a front of that and more
longer : (old new : Option (List ℕ)) (text more : List ℕ) → AppendsPrefix old new text
    → AppendsPrefix old new (text ++ more)
longer old new text more q = (q.0, q.1 ++ more, rw (q.2, append_assoc) refl, q.3)

pub returns-in_err-put_text-clause-prefix : goal.returns-in_err-put_text-clause-prefix
returns-in_err-put_text-clause-prefix g c =
    on_err _ c.from_residual.result _
    (λ s are. longer _ _ _ (line c.args.call.now s) (rw c.as_slice.ensures.value at c.in_err-put_text.ensures.put.part))

pub returns-in_err-put_text-2-clause-prefix : goal.returns-in_err-put_text-2-clause-prefix
returns-in_err-put_text-2-clause-prefix g c =
    let put = rw (c.as_slice-3.ensures.value, c.if-add_where_room.ensures) at c.in_err-put_text-2.ensures.put.part in
    on_err _ c.from_residual-in_err-put_text-2.result _ (λ s are. longer _ _ _ (line c.args.call.now s) put)

-- both were put
pub returns-clause-ok : goal.returns-clause-ok
returns-clause-ok g c =
    let gathered = c.args.gathered.now.items in
    let first = rw (c.as_slice-3.ensures.value, c.if-add_where_room.ensures) at c.in_ok-put_text-2.ensures.put.ok in
    on_ok_weaker {Q = (s : BufferState) → AreIn c.args.messages.now c.args.cursors.now.items s
    → TakesFront _ _ (gathered ++ line c.args.call.now s) _} _ (λ second s are. record {
      front = gathered ++ c.answer.new.text.items;
      taken = Appends-trans _ _ _ gathered _ first second;
      parts = grind (arith, common_steps, c.clear-2.ensures.items, c.in-Ok.ensures.line s are, c.clear.ensures.items);
    }) (rw c.as_slice-4.ensures.value at c.put_text-3.ensures.put.ok)

pub returns-clause-prefix : goal.returns-clause-prefix
returns-clause-prefix g c =
    let gathered = c.args.gathered.now.items in
    let first = rw (c.as_slice-3.ensures.value, c.if-add_where_room.ensures) at c.in_ok-put_text-2.ensures.put.ok in
    on_err_weaker {Q = (s : BufferState) → AreIn c.args.messages.now c.args.cursors.now.items s
    → AppendsPrefix _ _ (gathered ++ line c.args.call.now s)} _
    (λ second s are. AppendsPrefix_after _ _ _ gathered c.answer.new.text.items [] _
    (grind (arith, common_steps, append-nil, c.in-Ok.ensures.line s are, c.clear.ensures.items)) first second)
    (rw c.as_slice-4.ensures.value at c.put_text-3.ensures.put.part)
