use Rattle.std.proofs.Common.{sym, ◌∙◌}
use Rattle.std.specs.Str.{bytes_eq}
use Rattle.msg_reading.proofs.NamesInOrder.{position-map}
use Rattle.msg_serve.proofs.request.place_of.Goals as goal

pub returns : goal.returns
returns c = record {
  place = rw c.as_slice.ensures.items at c.place_in.ensures.place
      ∙ sym (position-map (bytes_eq c.args.name.now) (λ named. named.0) c.args.scenario.now.types);
}
