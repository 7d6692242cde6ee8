use Rattle.std.proofs.Common.{◌≡◌, ◌==◌, ◌⊎◌, Bool, None, Some, arith, false, if◌then◌else◌, inl, inr, int_lt, length, pos, refl, true, ℤ}
use Rattle.std.proofs.lemmas.{Bool.cases_Bool, Option.none-some, Option.same_Some}
use Rattle.msg_world.specs.{Prelude.reads, Prelude.writes, declared.part.Part.Part, declared.part.Part.TheVariants.OfResource, declared.part.Part.TheVariants.OfType}
use Rattle.msg_system.specs.{declared.op.Op.Op, declared.op.Op.TheVariants.Read, declared.op.Op.TheVariants.Write}
use Rattle.msg_system.proofs.Runs.{same_part_refl}
use Rattle.duel.specs.{Roles.health_after, declared.role.TheConstants.BLOW}
use Rattle.duel.proofs.role.Role.access.Goals as goal

-- a fighter asks for one of three ops
one_of : (first second up is_up : Bool) (x y z op : Op ℤ)
    → (if first then (if up then Some x else None) else if second then (if is_up then Some y else Some z) else None) ≡ Some op
    → (x ≡ op) ⊎ ((y ≡ op) ⊎ (z ≡ op))
one_of true second true is_up x y z op is = inl (same_Some _ _ is)
one_of true second false is_up x y z op is = absurd (none-some op is)
one_of false true up true x y z op is = inr (inl (same_Some _ _ is))
one_of false true up false x y z op is = inr (inr (same_Some _ _ is))
one_of false false up is_up x y z op is = absurd (none-some op is)

pub returns-in-Fighter : goal.returns-in-Fighter
returns-in-Fighter c =
    let f = c.in-Fighter.f in
    let blows : Part = OfType f.blows in
    let rival : Part = OfType f.rival in
    let falls : Part = OfType f.falls in
    let all = c.with_write_type-in-Fighter in
    let read : reads all.result blows ≡ true =
    rw (all.ensures.reads blows, c.with_write_type.ensures.reads blows, c.with_read_type.ensures.reads blows, same_part_refl blows) refl in
    let deals : writes all.result rival ≡ true =
    grind (arith, all.ensures.writes rival, c.with_write_type.ensures.writes rival, same_part_refl rival, cases_Bool) in
    let tells : writes all.result falls ≡ true = rw (all.ensures.writes falls, same_part_refl falls) refl in
    record {
      kept = λ replies op is.
          elim (one_of (length replies == 0) (length replies == 1) (int_lt (pos 0) f.health) (int_lt (pos 0) (health_after f.health replies))
          (Read f.blows None) (Write f.rival BLOW) (Write f.falls (pos 1)) op (rw c.in-Fighter.is at is)) [
            | inl e ↦ rw (← e, read) refl
            | inr (inl e) ↦ rw (← e, deals) refl
            | inr (inr e) ↦ rw (← e, tells) refl
          ];
    }

pub returns-in-Referee : goal.returns-in-Referee
returns-in-Referee c =
    let falls : Part = OfType c.in-Referee.falls in
    let fallen : Part = OfResource c.in-Referee.fallen in
    let all = c.with_write_res in
    let read : reads all.result falls ≡ true =
    rw (all.ensures.reads falls, c.with_read_type-in-Referee.ensures.reads falls, same_part_refl falls) refl in
    let adds : writes all.result fallen ≡ true = rw (all.ensures.writes fallen, same_part_refl fallen) refl in
    record { kept = λ replies op is. grind (arith, is, c.in-Referee.is, read, adds, none-some, same_Some, cases_Bool) }
