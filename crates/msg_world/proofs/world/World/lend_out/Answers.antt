use Rattle.std.proofs.Common.{arith, length, rules, ◌≡◌}
use Rattle.msg_world.specs.Prelude.{OfResource, OfType, Registry}
use Rattle.msg_world.proofs.world.World.lend_out.Goals as goal

pub moved_for-requires-clause-types : goal.moved_for-requires-clause-types
moved_for-requires-clause-types g c k bit = c.requires.home (OfType k) (grind (arith, bit))

pub moved_for-requires-clause-resources : goal.moved_for-requires-clause-resources
moved_for-requires-clause-resources g c k bit = c.requires.home (OfResource k) (grind (arith, bit))

pub returns-clause-lent : goal.returns-clause-lent
returns-clause-lent g c =
    let moved = rw (← c.self.view_is) at c.in_ok-moved.ensures in
    let marks = c.take_marks.ensures in
    let types : c.len.result ≡ length c.self.inside.types.items = search rules in
    let resources : c.len-2.result ≡ length c.self.inside.resources.items = search rules in
    let t = rw (← types) at moved.types in
    let r = rw (← resources) at moved.resources in
    record {
      moved = elim [ OfType k ↦ t.moved k | OfResource k ↦ r.moved k | Registry ↦ grind (arith, marks.taken, moved.marks) ];
      stayed = elim [ OfType k ↦ t.left k | OfResource k ↦ r.left k | Registry ↦ grind (arith, marks.left, moved.marks) ];
      taken_size = record { types = t.moved_len; resources = r.moved_len };
      left_size = record { types = t.left_len; resources = r.left_len };
    }
