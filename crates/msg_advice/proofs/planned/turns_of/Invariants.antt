use Rattle.std.proofs.Common.{◌≡◌, map, take}
use Rattle.std.specs.List.{concat}
use Rattle.msg_advice.proofs.planned.turns_of.Given as goal

abbrev pub invariant-loop-batch : goal.invariant-loop-batch
invariant-loop-batch l = l.turns.items ≡ concat (map (λ batch. batch.items) (take l.batch-index l.batch-items))
