use Rattle.std.proofs.Common.{◌≡◌, ◌++◌}
use Rattle.msg_world.specs.{Prelude.slot, declared.part.Part.TheVariants.OfType}
use Rattle.msg_log_json.specs.inner.KeptJson.{type_kept}
use Rattle.msg_log_json.proofs.Lists.{first_of}
use Rattle.msg_log_json.proofs.world.add_each_type.Given as goal

abbrev pub invariant-loop-k : goal.invariant-loop-k
invariant-loop-k l = l.text.items ≡ l.initial.text.items ++ first_of (λ x. type_kept x.1.0 (slot (OfType x.0) l.world)) l.types l.k
