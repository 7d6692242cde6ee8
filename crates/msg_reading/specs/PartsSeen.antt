-- Pairs that are read by reference, with what stands behind the references.
use Rattle.std.specs.Prelude.{Result, Ok, Err}
use Rattle.std.specs.Borrow.{Bor}
use Rattle.serde_json.specs.{Data.Data, View.view, declared.value.Value.Value}
use Rattle.msg_json.specs.Prelude.{Reading}
use Rattle.msg_json.specs.declared.fault.Fault.{Fault}

-- two values
abbrev pub pair_seen : Result (Bor Value × Bor Value) Fault → Reading (Data × Data)
pair_seen (Ok p) = Ok (view p.0.now, view p.1.now)
pair_seen (Err e) = Err e
