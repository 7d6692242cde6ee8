-- What holds of the ops that are told of a clash, and of the rules that are told of a cycle.
use Rattle.std.specs.Prelude.{◌≡◌, ℕ, ℤ, List, [], ◌∷◌, Some, option_and_then, slice_get}
use Rattle.msg_system.specs.Prelude.{type_read_by, type_written}
use Rattle.msg_system.specs.declared.op.Op.{Op}
use Rattle.msg_order.specs.declared.rule.Rule.{Rule}
use Rattle.msg_advice.specs.declared.clash.Clash.{Clash}

-- one of these ops reads the type, and one of them writes it
pub record DoClash (ops : List (Op ℤ)) (c : Clash) : Type 0 where
  pub reads : type_read_by ops c.reader ≡ Some c.of_type
  pub writes : option_and_then type_written (slice_get ops c.writer) ≡ Some c.of_type

-- rules, by their places, lead from system i to system j: each from where the one before it leads
abbrev pub Lead : List Rule → List ℕ → ℕ → ℕ → Type 0
Lead rules [] i j = i ≡ j
Lead rules (k ∷ ks) i j =
    (rule : Rule) × (slice_get rules k ≡ Some rule) × (rule.earlier ≡ i) × Lead rules ks rule.later j
