use Rattle.std.proofs.Common.{List, ℕ, Option, [], append_assoc, append-nil, sym, ◌++◌, refl}
use Rattle.std.proofs.KnownBytes.{Appends-trans}
use Rattle.msg_json.specs.Prelude.{AppendsPrefix}
use Rattle.msg_json.proofs.Puts.{AppendsPrefix_after, on_err}
use Rattle.msg_command.proofs.fault.print.put_both.Goals as goal

-- a front of the first text is one of both
front_of_both : (old new : Option (List ℕ)) (first second : List ℕ) → AppendsPrefix old new first
    → AppendsPrefix old new (first ++ second)
front_of_both old new first second taken =
    (taken.0, taken.1 ++ second, rw taken.2 (simp append_assoc refl), taken.3)

pub returns-in_err-put_all-clause-prefix : goal.returns-in_err-put_all-clause-prefix
returns-in_err-put_all-clause-prefix g c =
    on_err _ _ _ (front_of_both _ _ c.args.first.now c.args.second.now c.in_err-put_all.ensures.prefix)

pub returns-in_err-put_all-2-clause-prefix : goal.returns-in_err-put_all-2-clause-prefix
returns-in_err-put_all-2-clause-prefix g c =
    on_err _ _ _ (AppendsPrefix_after _ _ _ c.args.first.now c.args.second.now [] _ (sym (append-nil _))
    c.in_ok-put_all.ensures.ok c.in_err-put_all-2.ensures.prefix)

pub returns-clause-ok : goal.returns-clause-ok
returns-clause-ok g c =
    Appends-trans _ _ _ c.args.first.now c.args.second.now c.in_ok-put_all.ensures.ok c.in_ok-put_all-2.ensures.ok
