use Rattle.std.proofs.Common.{inl, inr, sym, ◌∙◌}
use Rattle.std.proofs.lemmas.Bool.{false≢true}
use Rattle.msg_world.specs.inner.Taken.{IsSpare}
use Rattle.msg_world.proofs.Worlds.{none_out}
use Rattle.msg_world.proofs.world.World.moved_for.Goals as goal

pub returns-then-not-writes_type_or_res-clause-types : goal.returns-then-not-writes_type_or_res-clause-types
returns-then-not-writes_type_or_res-clause-types g c =
    let spare = c.spare_for.ensures in
    rw spare.same (none_out _ (IsSpare _ _) _ _ _ (λ m is. is.types) spare.spare
    (λ k t. false≢true (sym c.if-not-writes_type_or_res.true ∙ c.writes_type_or_res.ensures.some.1 (inl (k, t)))))

pub returns-then-not-writes_type_or_res-clause-resources : goal.returns-then-not-writes_type_or_res-clause-resources
returns-then-not-writes_type_or_res-clause-resources g c =
    let spare = c.spare_for.ensures in
    rw spare.same (none_out _ (IsSpare _ _) _ _ _ (λ m is. is.resources) spare.spare
    (λ k t. false≢true (sym c.if-not-writes_type_or_res.true ∙ c.writes_type_or_res.ensures.some.1 (inr (k, t)))))
