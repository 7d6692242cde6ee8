-- What the systems of a fight do next, and what they remember.
use Rattle.std.specs.Prelude.{ℤ, pos, ◌==◌, List, length, Option, Some, None, int_lt, slice_get, if◌then◌else◌}
use Rattle.msg_system.specs.{declared.op.Op.Op, declared.op.Op.TheVariants.Read, declared.op.Op.TheVariants.Sum, declared.op.Op.TheVariants.Write, declared.reply.Reply.Reply}
use Rattle.msg_system.specs.Prelude.{brought, sum_onto}
use Rattle.duel.specs.{declared.role.TheConstants.BLOW, declared.role.Role.Role, declared.role.Role.TheVariants.Fighter, declared.role.Role.TheVariants.Referee}
use Rattle.msg_world.specs.Prelude.{i64_values}

-- the health that is left by the blows that came in this turn
abbrev pub health_after : ℤ → List (Reply ℤ) → ℤ
health_after health replies = sum_onto i64_values.plus health (brought (slice_get replies 0))

-- A fighter reads its blows if it hasn't fallen, and then deals one, or says that it fell. A
-- referee adds up the falls.
abbrev pub next_deed : Role → List (Reply ℤ) → Option (Op ℤ)
next_deed (Fighter f) replies =
    if length replies == 0 then (if int_lt (pos 0) f.health then Some (Read f.blows None) else None)
    else if length replies == 1 then
    (if int_lt (pos 0) (health_after f.health replies) then Some (Write f.rival BLOW)
    else Some (Write f.falls (pos 1)))
    else None
next_deed (Referee falls fallen) replies = if length replies == 0
    then Some (Sum falls fallen) else None

-- what a role is after a turn with these replies
abbrev pub role_after : Role → List (Reply ℤ) → Role
role_after (Fighter f) replies = Fighter (record f { health = health_after f.health replies })
role_after (Referee falls fallen) replies = Referee falls fallen
