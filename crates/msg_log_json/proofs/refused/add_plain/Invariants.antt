use Rattle.std.proofs.Common.{◌≡◌, ◌++◌}
use Rattle.msg_json.specs.Prelude.{Text}
use Rattle.msg_log_json.specs.Prelude.{IsPlain}
use Rattle.msg_log_json.proofs.refused.add_plain.Given as goal

abbrev pub invariant-loop-byte : goal.invariant-loop-byte
invariant-loop-byte l = (plain : Text) × IsPlain plain × (l.text.items ≡ l.initial.text.items ++ plain)
