use Rattle.std.proofs.Common.{[], append-nil, arith, refl, rules}
use Rattle.std.proofs.KnownBytes.{Consumes-trans, Consumes-all}
use Rattle.std.proofs.lemmas.List.{length-append, length-take}
use Rattle.msg_command.proofs.input.read_all.Goals as goal

-- a read of nothing at the end: what came before is all
pub returns-then-n-eq0-clause-all : goal.returns-then-n-eq0-clause-all
returns-then-n-eq0-clause-all g c =
    let consumed = Consumes-trans _ _ _ c.loop.all.items _ c.loop.invariant.0 c.in-Ok.ensures.bytes.0 in
    let end = c.in-Ok.ensures.bytes.1 c.if-n-eq0.true (search rules) in
    Consumes-all _ _ _ [] _ (rw (c.if-n-eq0.true, append-nil) at consumed) end refl

-- a read that goes past the limit
pub returns-then-len-n-gt-MAX_BYTES-clause-large : goal.returns-then-len-n-gt-MAX_BYTES-clause-large
returns-then-len-n-gt-MAX_BYTES-clause-large g c = λ _. (
  _,
  Consumes-trans _ _ _ c.loop.all.items _ c.loop.invariant.0 c.in-Ok.ensures.bytes.0,
  simp (length-append, length-take) (omega (arith, c.in-Ok.ensures.bound.0)),
)

-- no memory for what a read gave within the limit
pub returns-then-is_err-clause-no_memory : goal.returns-then-is_err-clause-no_memory
returns-then-is_err-clause-no_memory g c = λ _. (
  _,
  Consumes-trans _ _ _ c.loop.all.items _ c.loop.invariant.0 c.in-Ok.ensures.bytes.0,
  simp (length-append, length-take) (omega (arith, c.in-Ok.ensures.bound.0)),
)
