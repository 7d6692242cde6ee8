use Rattle.std.proofs.Common.{◌≡◌, ◌∙◌, ap, length, sym}
use Rattle.std.proofs.lemmas.Slice.Zip.{AllZip-long}
use Rattle.msg_frames.proofs.Functions.{orderly_of}
use Rattle.msg_order.proofs.SettledOrders.{none_more}
use Rattle.msg_reading.specs.Prelude.{state_of}
use Rattle.msg_advice.proofs.Tables.{accesses_are, joins_are}
use Rattle.msg_advice.proofs.planned.arrangement_of.Goals as goal

pub returns-clause-arranged : goal.returns-clause-arranged
returns-clause-arranged c =
    let s = c.args.scenario.now in
    record {
      accesses = accesses_are s _ c.requires.accesses;
      joins = c.requires.joins ∙ joins_are s;
      rules = c.as_slice.ensures.items;
      types = ap length c.as_slice-2.ensures.items;
      resources = ap length c.as_slice-3.ensures.items;
    }

pub returns-clause-orderly : goal.returns-clause-orderly
returns-clause-orderly c =
    let s = c.args.scenario.now in
    let runnable = c.requires.runnable in
    let arranged = returns-clause-arranged c in
    let many : (state_of s).systems ≡ length s.systems =
    sym arranged.accesses.each ∙ AllZip-long _ s.systems c.args.accesses.now c.requires.accesses in
    orderly_of (state_of s) _ arranged (rw many runnable.few_systems) (rw many runnable.rules_in_range)
    (λ joined size. none_more _ s.rules runnable.rules_in_range runnable.acyclic joined (size ∙ many))
