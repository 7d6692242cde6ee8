use Rattle.std.proofs.Common.{string_bytes}
use Rattle.std.specs.Str.{bytes_eq}
use Rattle.msg_reading.proofs.NamesInOrder.{position-map}
use Rattle.msg_reading.proofs.read.names.NameSpace.place.Goals as goal

pub returns : goal.returns
returns c = record {
  place = rw (← c.self.view_is, position-map (bytes_eq c.args.name.now) string_bytes c.self.inside.names.keys)
      c.get_index_of.ensures.index;
}
