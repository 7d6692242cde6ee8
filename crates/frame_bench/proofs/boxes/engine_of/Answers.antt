use Rattle.std.proofs.Common.{rules}
use Rattle.std.proofs.lemmas.Option.{get_or_from_slice_get, slice_get_within}
use Rattle.frame_bench.proofs.boxes.engine_of.Goals as goal

pub new-requires-2-clause-each : goal.new-requires-2-clause-each
new-requires-2-clause-each g c i x there =
    let systems = c.args.systems.items in
    let places = c.in_ok-places.places.items in
    let fits = rw (c.deref.ensures.value, c.types.ensures.types, c.resources.ensures.resources)
    at c.in_ok-check_fit.ensures.fit in
    let fit = rw (get_or_from_slice_get systems i x x there) at (fits i x (slice_get_within systems i x there)) in
    record {
      new = c.requires.new i x there;
      fits = λ place sp.
          let is = rw (get_or_from_slice_get places i place place sp)
          at (c.in_ok-places.ensures.each i place (slice_get_within places i place sp)) in
          rw is fit;
      joins = λ place sp.
          let is = rw (get_or_from_slice_get places i place place sp)
          at (c.in_ok-places.ensures.each i place (slice_get_within places i place sp)) in
          rw is (search rules);
    }
