use Rattle.std.proofs.Common.{All, ap, arith, length, refl, ◌<◌}
use Rattle.msg_exec.proofs.engine.EngineOf.fits.Goals as goal

pub returns : goal.returns
returns g c =
    let items = c.as_slice-post-items.ensures.items in
    let all : All (λ p. p.0 < length c.in-Some.core.lender.world.types) c.args.frame.now.posts = λ k d lt.
    rw items at (c.loop-post.invariant k d (omega (arith, lt, ap length items, c.loop-post-test.false))) in
    record { fits = (λ _. rw c.in-Some.is all, λ _. refl) }
