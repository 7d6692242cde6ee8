use Rattle.std.proofs.Common.{[], ap, append-nil, arith, Err, Ok, ◌∙◌, ◌≢◌, length, ◌++◌, ◌<◌, ◌≡◌}
use Rattle.std.proofs.lemmas.{List.length-append, Result.err_from_is_err_and}
use Rattle.msg_serve.specs.declared.limits.TheConstants.{MAX_LINE}
use Rattle.msg_serve.proofs.InputLines.{drops_all, drops_feed, drops_later, is_last, is_too_long, is_whole, more, more_whole, takes_front, takes_more}
use Rattle.msg_serve.proofs.input.read_line.Goals as goal

pub returns-in_err-add_part-clause-begun : goal.returns-in_err-add_part-clause-begun
returns-in_err-add_part-clause-begun g c fault came =
    let far = c.loop-input.invariant in
    let came_to = c.in_err-add_part.ensures in
    let why = c.in_err-add_part.field-0.0 in
    let passed = err_from_is_err_and c.from_residual.result c.from_residual.ensures.1 in
    let same : fault ≡ why = grind (arith, came, passed.1, passed.2) in
    let part = came_to.in_line in
    rw same (takes_more _ _ _ c.loop-input.line.items part.0 why came_to.faults far.1 far.2 part.1 part.2 (λ is. came_to.kept (ap Err is)))

pub returns-in-Last-clause-line : goal.returns-in-Last-clause-line
returns-in-Last-clause-line g c =
    let far = c.loop-input.invariant in
    let part = rw c.in-Last.is at c.in_ok-add_part.ensures.part in
    let all = more_whole _ _ _ c.loop-input.line.items part.0 part.1 far.1 far.2 part.2 part.4.0 part.4.1 in
    rw part.3 (is_whole _ _ _ all.1 all.0 (rw part.3 at c.in_ok-add_part.ensures.short))

pub returns-in-Last-clause-rest : goal.returns-in-Last-clause-rest
returns-in-Last-clause-rest g c =
    let far = c.loop-input.invariant in
    let part = rw c.in-Last.is at c.in_ok-add_part.ensures.part in
    let all = more_whole _ _ _ c.loop-input.line.items part.0 part.1 far.1 far.2 part.2 part.4.0 part.4.1 in
    drops_feed _ _ _ all.1 all.0

pub returns-in_err-skip_line-in-TooLong-clause-begun :
    goal.returns-in_err-skip_line-in-TooLong-clause-begun
returns-in_err-skip_line-in-TooLong-clause-begun g c fault came =
    let far = c.loop-input.invariant in
    let part = rw c.in-TooLong.is at c.in_ok-add_part.ensures.part in
    let front = more _ _ _ c.loop-input.line.items part.0 far.1 far.2 part.2 part.4.0 in
    let skipped = c.in_err-skip_line-in-TooLong.ensures.in_line in
    let all = more _ _ _ _ skipped.0 front.0 front.1 skipped.1 skipped.2 in
    takes_front _ _ _ fault all.0 all.1

pub returns-in-TooLong-clause-line : goal.returns-in-TooLong-clause-line
returns-in-TooLong-clause-line g c =
    let far = c.loop-input.invariant in
    let part = rw c.in-TooLong.is at c.in_ok-add_part.ensures.part in
    let front = more _ _ _ c.loop-input.line.items part.0 far.1 far.2 part.2 part.4.0 in
    let long : MAX_LINE < length (c.loop-input.line.items ++ part.0) = rw (length-append c.loop-input.line.items part.0) (omega (arith, part.4.1, far.0)) in
    is_too_long _ _ _ front.1 front.0 long

pub returns-in-TooLong-clause-rest : goal.returns-in-TooLong-clause-rest
returns-in-TooLong-clause-rest g c =
    let far = c.loop-input.invariant in
    let part = rw c.in-TooLong.is at c.in_ok-add_part.ensures.part in
    let front = more _ _ _ c.loop-input.line.items part.0 far.1 far.2 part.2 part.4.0 in
    drops_later _ _ _ _ front.1 front.0 c.in_ok-skip_line-in-TooLong.ensures.rest

pub returns-in-End-2-clause-line : goal.returns-in-End-2-clause-line
returns-in-End-2-clause-line g c =
    let far = c.loop-input.invariant in
    let part = rw c.in-End.is at c.in_ok-add_part.ensures.part in
    let same : c.add_part.new.line.items ≡ c.loop-input.line.items =
    part.3 ∙ ap (λ l. c.loop-input.line.items ++ l) part.4.1 ∙ append-nil c.loop-input.line.items in
    let some : c.add_part.new.line.items ≢ [] = λ none. grind (arith, c.if-is_empty.false, c.is_empty.ensures, ap length none) in
    rw same (is_last _ _ c.loop-input.line.items far.2 far.1 (c.in_ok-add_part.ensures.end (ap Ok c.in-End.is)) (rw same at some) far.0)

pub returns-in-End-2-clause-rest : goal.returns-in-End-2-clause-rest
returns-in-End-2-clause-rest g c =
    let far = c.loop-input.invariant in
    let part = rw c.in-End.is at c.in_ok-add_part.ensures.part in
    drops_all _ _ _ c.loop-input.line.items far.2 far.1 (rw part.4.0 at part.2) (c.in_ok-add_part.ensures.end (ap Ok c.in-End.is))
