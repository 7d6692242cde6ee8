use Rattle.msg_world.specs.{Prelude.slot, declared.part.Part.TheVariants.OfResource}
use Rattle.msg_log_json.specs.inner.KeptJson.{resource_kept}
use Rattle.msg_log_json.proofs.Lists.{all_made, one_more}
use Rattle.msg_log_json.proofs.world.add_each_resource.Goals as goal

pub loop-k-preserved : goal.loop-k-preserved
loop-k-preserved c =
    one_more (λ x. resource_kept x.1.0 (slot (OfResource x.0) c.args.world.now)) c.args.resources.now c.loop-k.k _ _ _ _ _ c.loop-k.invariant c.in_ok-add_comma.ensures.appends
    c.in_ok-add_resource.ensures.appends c.index-resources-k.is c.loop-k-test.true

pub returns : goal.returns
returns c = record {
  appends = all_made (λ x. resource_kept x.1.0 (slot (OfResource x.0) c.args.world.now)) c.args.resources.now c.loop-k.k _ _ c.loop-k.invariant c.loop-k-test.false;
}
