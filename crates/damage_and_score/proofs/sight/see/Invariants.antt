use Rattle.std.proofs.Common.{◌≡◌, ◌+◌, length}
use Rattle.msg_buffer.specs.Prelude.{Continues, iter_place, iter_rest}
use Rattle.damage_and_score.specs.Prelude.{Archer, Mage, points_of}
use Rattle.damage_and_score.proofs.sight.see.Given as goal

-- what was added so far and what is left are all that was unread
abbrev pub invariant-loop-hit : goal.invariant-loop-hit
invariant-loop-hit l =
    let start = l.initial.hit-iterator in let now = l.hit-iterator in record {
      can_next : (goal.iterator-loop-hit).can_next now;
      is_finite : (goal.iterator-loop-hit).is_finite now;
      continues : Continues start now;
      archer : l.archer + points_of Archer (iter_rest now) ≡ points_of Archer (iter_rest start);
      mage : l.mage + points_of Mage (iter_rest now) ≡ points_of Mage (iter_rest start);
      place : iter_place now + length (iter_rest now) ≡ iter_place start + length (iter_rest start);
    }
