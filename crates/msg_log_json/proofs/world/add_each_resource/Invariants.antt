use Rattle.std.proofs.Common.{◌≡◌, ◌++◌}
use Rattle.msg_world.specs.{Prelude.slot, declared.part.Part.TheVariants.OfResource}
use Rattle.msg_log_json.specs.inner.KeptJson.{resource_kept}
use Rattle.msg_log_json.proofs.Lists.{first_of}
use Rattle.msg_log_json.proofs.world.add_each_resource.Given as goal

abbrev pub invariant-loop-k : goal.invariant-loop-k
invariant-loop-k l = l.text.items ≡ l.initial.text.items ++ first_of (λ x. resource_kept x.1.0 (slot (OfResource x.0) l.world)) l.resources l.k
