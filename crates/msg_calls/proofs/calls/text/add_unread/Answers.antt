use Rattle.std.proofs.lemmas.Grind.{common_steps}
use Rattle.std.proofs.Common.{◌≡◌, length, arith, ℤ}
use Rattle.msg_buffer.specs.Prelude.{History, StandsFor, given, unread}
use Rattle.msg_calls.proofs.ItemsInLines.{HasAdded_more, HasAdded_given, spaced_items}
use Rattle.msg_calls.proofs.calls.text.add_unread.Goals as goal

pub loop-init : goal.loop-init
loop-init c = grind (arith, common_steps)

pub loop-preserved : goal.loop-preserved
loop-preserved c =
    HasAdded_more _ _ _ (c.in-Some.id, c.in-Some.message) _ _ _ _ c.loop.invariant c.in-Some.ensures.steps
    c.in_ok-add_item.ensures

-- as many were given as the read gives
counted : (c : goal.After-cursor-in-loop-1) (h : History ℤ) → StandsFor c.args.messages.now h
    → c.loop.counter ≡ length (given h c.args.cursor.now c.args.limit)
counted c h stands =
    grind (arith, c.number_given-number.ensures (unread h c.args.cursor.now), c.len.ensures.meaning h stands)

pub returns-after-loop-clause-appends : goal.returns-after-loop-clause-appends
returns-after-loop-clause-appends c = λ h stands.
    grind (
      arith,
      c.loop.invariant,
      c.if-number-eq0,
      c.read-unread.ensures.unread h stands,
      counted c h stands,
      spaced_items,
      HasAdded_given _ _ _ _ _ c.args.limit _ c.loop.invariant (c.read-unread.ensures.unread h stands)
          (counted c h stands),
    )

pub returns-after-loop-clause-place : goal.returns-after-loop-clause-place
returns-after-loop-clause-place c = λ h stands.
    grind (arith, c.loop.invariant, c.read-unread.ensures, counted c h stands)
