use Rattle.std.proofs.{Common.inl, Common.inr, Common.arith, Common.rules, Math.Path.fun_ext, lemmas.Bool.cases_lt}
use Rattle.msg_world.specs.{declared.part.Part.TheVariants.OfType, declared.limits.TheConstants.MAX_TYPES}
use Rattle.msg_world.proofs.Bits.{has_bit-above}
use Rattle.msg_system.proofs.cursors.Cursors.start.Goals as goal

pub returns : goal.returns
returns c = record {
  started = λ n of. fun_ext (λ t. rw (← of.reads (OfType t)) (elim (cases_lt t MAX_TYPES) [
    | inl l ↦ c.loop-number.invariant.done t (omega (arith, l))
    | inr m ↦ rw (has_bit-above c.args.access.read_types t (search rules) m)
        (c.loop-number.invariant.later t (omega arith))
  ]));
}
