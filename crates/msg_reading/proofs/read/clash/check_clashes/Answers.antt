use Rattle.std.proofs.Common.{◌∙◌, ap, sym, refl, ◌+◌}
use Rattle.msg_system.specs.Prelude.{HasClash, program_needs}
use Rattle.std.proofs.lemmas.{Bool.false≢true, List.take_all, List.Elements.All-more, Option.slice_get_read}
use Rattle.msg_json.specs.declared.reason.Reason.TheVariants.{Clash}
use Rattle.msg_reading.specs.Prelude.{unfit}
use Rattle.msg_reading.proofs.read.clash.check_clashes.Goals as goal

pub loop-system-preserved : goal.loop-system-preserved
loop-system-preserved c = record {
  number = ap (λ n. n + 1) c.loop-system.invariant.number;
  none = All-more (λ x. ¬ HasClash (program_needs x.program.ops)) c.args.systems.now c.loop-system.system-index
      c.system-item.result c.loop-system-test.true c.loop-system.invariant.none (rw (← c.system-item.is) (λ has.
      false≢true (sym c.if-is_clash.false ∙ c.is_clash.ensures.clash.1 (c.access.ensures.clash.1 has))));
}

pub returns-then-is_clash-clause-refused : goal.returns-then-is_clash-clause-refused
returns-then-is_clash-clause-refused c =
    let i = c.loop-system.system-index in rw c.clash_of.ensures.clash (
      i,
      ap (λ n. unfit (Clash n)) c.loop-system.invariant.number,
      record {
        system = c.system-item.result;
        is = slice_get_read c.args.systems.now _ i c.system-item.result refl c.loop-system-test.true c.system-item.is;
        clash = c.access.ensures.clash.0 (c.is_clash.ensures.clash.0 c.if-is_clash.true);
        lowest = c.loop-system.invariant.none;
      },
    )

pub returns-clause-passed : goal.returns-clause-passed
returns-clause-passed c =
    rw (take_all c.loop-system.system-index c.args.systems.now c.loop-system-test.false) at c.loop-system.invariant.none
