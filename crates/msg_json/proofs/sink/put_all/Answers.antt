use Rattle.std.proofs.Common.{◌≡◌, ◌-◌, [], length, take, drop, sym, refl, arith}
use Rattle.std.proofs.KnownBytes.{Appends-trans, Appends-kept}
use Rattle.std.proofs.Math.Seq.{take-add}
use Rattle.std.proofs.lemmas.{List.take-append-drop, Grind.common_steps}
use Rattle.msg_json.specs.Prelude.{PutFault}
use Rattle.msg_json.proofs.Puts.{AppendsPrefix_after, failures_kept, on_err}
use Rattle.msg_json.proofs.sink.put_all.Goals as goal

pub loop-done-preserved : goal.loop-done-preserved
loop-done-preserved g c =
    let done = c.loop-done.done in
    let n = c.in_ok-n.n in
    let piece = c.args.piece.now in
    let rest : take (length piece - done) (drop done piece) ≡ drop done piece = grind (arith, common_steps) in (
      grind (arith, common_steps, c.in_ok-n.ensures.bound),
      rw (take-add done n piece, ← rest)
          (Appends-trans _ _ _ (take done piece) _ c.loop-done.invariant.1 c.in_ok-n.ensures.bytes),
      failures_kept PutFault _ _ _ n _ c.in_ok-n.ensures.counts c.if-n-eq0.false c.loop-done.invariant.2,
    )

-- a put that failed leaves the front that was there
pub returns-in_err-n-clause-prefix : goal.returns-in_err-n-clause-prefix
returns-in_err-n-clause-prefix g c =
    let front = take c.loop-done.done c.args.piece.now in
    on_err _ c.from_residual.result _ (
      front,
      drop c.loop-done.done c.args.piece.now,
      sym (take-append-drop _ _),
      Appends-kept _ _ _ front c.loop-done.invariant.1 c.in_err-n.ensures.bytes,
    )

-- and so does a put that took nothing
pub returns-then-n-eq0-clause-prefix : goal.returns-then-n-eq0-clause-prefix
returns-then-n-eq0-clause-prefix g c =
    AppendsPrefix_after _ _ _ (take c.loop-done.done c.args.piece.now) [] (drop c.loop-done.done c.args.piece.now) _
    (grind (arith, common_steps)) c.loop-done.invariant.1
    ([], [], refl, rw c.if-n-eq0.true at c.in_ok-n.ensures.bytes)
