use Rattle.std.proofs.Common.{◌≡◌, List, None, length, refl, ℤ}
use Rattle.msg_system.specs.declared.{limits.TheConstants.MAX_OPS, reply.Reply.Reply}
use Rattle.duel.specs.{Roles.next_deed, declared.role.Role.Role, declared.role.Role.TheVariants.Fighter, declared.role.Role.TheVariants.Referee}
use Rattle.duel.proofs.role.Role.system.Goals as goal

-- a role asks for few ops
ends : (r : Role) (replies : List (Reply ℤ)) → length replies ≡ MAX_OPS → next_deed r replies ≡ None
ends (Fighter f) replies full = rw full refl
ends (Referee falls fallen) replies full = rw full refl

pub returns : goal.returns
returns c = record {
  uncut = λ s. c.turns_within_bounds_are_whole.ensures.always _ s
      (rw c.new.ensures.new (record { kept = c.access-access.ensures.kept; ends = ends c.args.self }));
}
