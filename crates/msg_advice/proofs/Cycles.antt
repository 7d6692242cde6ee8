-- Rules that lead from one system to another, and one rule more.
use Rattle.std.proofs.Common.{◌≡◌, ℕ, ◌<◌, List, [], ◌∷◌, ◌++◌, Some, IfSome, length, get_or, slice_get, refl, subst, sym, ◌∙◌}
use Rattle.std.proofs.lemmas.Option.{slice_get-get_or}
use Rattle.msg_order.specs.declared.rule.Rule.{Rule}
use Rattle.msg_advice.specs.Unfit.{Lead}

pub lead_on : (rules : List Rule) (ks : List ℕ) (i j k : ℕ) (rule : Rule) → Lead rules ks i j → slice_get rules k ≡ Some rule
    → rule.earlier ≡ j → Lead rules (ks ++ k ∷ []) i rule.later
lead_on rules [] i j k rule lead at from = (rule, at, from ∙ sym lead, refl)
lead_on rules (l ∷ ks) i j k rule lead at from =
    (lead.0, lead.1, lead.2, lead_on rules ks lead.0.later j k rule lead.3 at from)

-- the rule at this place leads on, if it leads from where they led
pub lead_on_at : (rules : List Rule) (ks : List ℕ) (i j k : ℕ) (d : Rule) → Lead rules ks i j → k < length rules
    → IfSome (slice_get rules k) (λ rule. rule.earlier ≡ j) → Lead rules (ks ++ k ∷ []) i (get_or rules k d).later
lead_on_at rules ks i j k d lead below from =
    let at = slice_get-get_or rules k d below in
    lead_on rules ks i j k (get_or rules k d) lead at (subst (λ o. IfSome o (λ rule. rule.earlier ≡ j)) at from)
