use Rattle.std.proofs.Common.{codes, decimal}
use Rattle.std.proofs.lemmas.Result.{on_ok_weaker}
use Rattle.msg_log_json.specs.Prelude.{happened_json}
use Rattle.msg_log_json.proofs.Kept.{resources_told, types_told}
use Rattle.msg_log_json.proofs.Lists.{extended, line_pieces}
use Rattle.msg_log_json.proofs.frame.add_frame_line.Goals as goal

pub returns : goal.returns
returns c = record {
  appends = on_ok_weaker c.extend_from_slice.result
      (λ made w stands.
      let s = c.args.scenario.now in
      let world = c.args.world.now in
      let types = types_told s world w c.requires.whole stands c.requires.types in
      let resources = resources_told s world w c.requires.whole stands c.requires.resources in
      line_pieces c.args.text.now.items (codes "{\"frame\":") (decimal c.args.number)
      (happened_json s c.args.frame.now c.args.log.now) (codes ",\"types\":{") _ (codes "}")
      (codes ",\"resources\":{") _ (codes "}\n") _ _ _ _ c.in_ok-add_count.ensures.appends
      c.in_ok-add_happened.ensures.appends (rw (types, resources) at c.in_ok-add_left.ensures.appends) made)
      (extended c.extend_from_slice.result _ c.add_left.new.text.items (codes "}\n") c.extend_from_slice.ensures.items);
}
