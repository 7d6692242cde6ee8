use Rattle.std.proofs.Common.{arith}
use Rattle.msg_world.specs.Prelude.{merge}
use Rattle.msg_world.proofs.Loans.{content_merged}
use Rattle.msg_world.proofs.lent.Lent.stands_for_some.Goals as goal

pub returns : goal.returns
returns g c =
    let l = c.args.self.now in
    let there = c.stands_for_some.ensures.state in
    let here = c.stands_for_some-2.ensures.state in
    record { state = (merge l.access.now here.0 there.0, λ p. grind (arith, content_merged, here.1 p, there.1 p)) }
