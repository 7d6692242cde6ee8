use Rattle.std.proofs.Common.{arith}
use Rattle.std.proofs.lemmas.Bool.{cases_Bool}
use Rattle.msg_order.proofs.UserRows.{conflict_meet, meet_conflict}
use Rattle.msg_order.proofs.users.Users.in_conflict_with.Goals as goal

pub returns-then-access : goal.returns-then-access
returns-then-access c accesses joined are k = (
  λ t. meet_conflict accesses joined c.args.self.now are c.args.access.now k
      (grind (arith, cases_Bool, c.add_in_conflict.ensures k, c.add_in_conflict-2.ensures k, c.empty-users.ensures k, c.union_with.ensures k)),
  λ both.
      let m = conflict_meet accesses joined c.args.self.now are c.args.access.now k both.0 both.1 in
      grind (arith, cases_Bool, c.add_in_conflict.ensures k, c.add_in_conflict-2.ensures k, c.union_with.ensures k, m),
)

pub returns-else-access : goal.returns-else-access
returns-else-access c accesses joined are k = (
  λ t. meet_conflict accesses joined c.args.self.now are c.args.access.now k
      (grind (arith, cases_Bool, c.add_in_conflict.ensures k, c.add_in_conflict-2.ensures k, c.empty-users.ensures k)),
  λ both.
      let m = conflict_meet accesses joined c.args.self.now are c.args.access.now k both.0 both.1 in
      grind (arith, cases_Bool, c.add_in_conflict.ensures k, c.add_in_conflict-2.ensures k, m),
)
