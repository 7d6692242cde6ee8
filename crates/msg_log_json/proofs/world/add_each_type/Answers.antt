use Rattle.msg_world.specs.{Prelude.slot, declared.part.Part.TheVariants.OfType}
use Rattle.msg_log_json.specs.inner.KeptJson.{type_kept}
use Rattle.msg_log_json.proofs.Lists.{all_made, one_more}
use Rattle.msg_log_json.proofs.world.add_each_type.Goals as goal

pub loop-k-preserved : goal.loop-k-preserved
loop-k-preserved c =
    one_more (λ x. type_kept x.1.0 (slot (OfType x.0) c.args.world.now)) c.args.types.now c.loop-k.k _ _ _ _ _ c.loop-k.invariant c.in_ok-add_comma.ensures.appends
    c.in_ok-add_type.ensures.appends c.index-types-k.is c.loop-k-test.true

pub returns : goal.returns
returns c = record {
  appends = all_made (λ x. type_kept x.1.0 (slot (OfType x.0) c.args.world.now)) c.args.types.now c.loop-k.k _ _ c.loop-k.invariant c.loop-k-test.false;
}
