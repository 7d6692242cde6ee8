use Rattle.std.proofs.Common.{arith}
use Rattle.msg_serve.proofs.InputLines.{at_end, drops_all, drops_feed, more, more_whole}
use Rattle.msg_serve.proofs.input.skip_line.Goals as goal
use Rattle.msg_serve.proofs.input.skip_line.Goals.{then-read-eq0-via-then-read-eq0, then-read-eq0-via-else-read-eq0+then-ends_line}

pub returns-then-read-eq0-clause-rest : goal.returns-then-read-eq0-clause-rest
returns-then-read-eq0-clause-rest g c =
    let far = c.loop-read.invariant.0 in
    let read = c.in_ok-read.ensures in
    elim c.then-read-eq0.branch [
      | then-read-eq0-via-then-read-eq0 w ↦
          let none = w.if-read-eq0.true in
          drops_all _ _ _ far.0 far.1 far.2 (rw none at read.bytes) (at_end _ _ _ read.end none (omega arith))
      | then-read-eq0-via-else-read-eq0+then-ends_line w ↦
          let feed = w.ends_line.ensures.feed w.if-ends_line.true in
          let all = more_whole _ _ _ far.0 _ feed.0 far.2 far.1 read.bytes feed.1 feed.2 in
          drops_feed _ _ _ all.1 all.0
    ]

pub loop-read-preserved : goal.loop-read-preserved
loop-read-preserved g c =
    let far = c.loop-read.invariant.0 in
    let read = c.in_ok-read.ensures in
    let all = more _ _ _ far.0 _ far.2 far.1 read.bytes (c.ends_line.ensures.none c.if-ends_line.false) in (
      (_, all.1, all.0),
      grind (arith, read.counts, c.loop-read.invariant.1),
      omega (arith, read.fewer, c.loop-read.invariant.2),
    )
