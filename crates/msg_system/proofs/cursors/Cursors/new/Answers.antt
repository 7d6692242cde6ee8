use Rattle.std.proofs.Common.{◌∙◌, ap, get_or, replicate}
use Rattle.msg_world.specs.declared.limits.TheConstants.{MAX_TYPES}
use Rattle.msg_world.proofs.PartsMove.{equal_items}
use Rattle.msg_system.proofs.cursors.Cursors.new.Goals as goal

pub returns : goal.returns
returns c = record { zero = λ k t. (ap (λ x. get_or (replicate MAX_TYPES x) t 0) c.new.ensures.place ∙ equal_items MAX_TYPES 0 t) k }
