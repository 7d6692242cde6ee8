-- What is read by reference, with what stands behind the references.
use Rattle.std.specs.Prelude.{List, map, Result, Ok, Err}
use Rattle.std.specs.Borrow.{Bor}
use Rattle.serde_json.specs.{Data.Data, Data.Num, View.view, View.number_view, declared.value.Value.Value, declared.number.Number.Number}
use Rattle.msg_json.specs.Text.{Text}
use Rattle.msg_json.specs.{Faults.Reading, declared.fault.Fault.Fault}

-- a value
abbrev pub value_seen : Result (Bor Value) Fault → Reading Data
value_seen (Ok v) = Ok (view v.now)
value_seen (Err e) = Err e

-- the items of a list
abbrev pub items_seen : Result (Bor (List Value)) Fault → Reading (List Data)
items_seen (Ok vs) = Ok (map view vs.now)
items_seen (Err e) = Err e

-- a text
abbrev pub text_seen : Result (Bor Text) Fault → Reading Text
text_seen (Ok t) = Ok t.now
text_seen (Err e) = Err e

-- a number
abbrev pub number_seen : Result (Bor Number) Fault → Reading Num
number_seen (Ok n) = Ok (number_view n.now)
number_seen (Err e) = Err e

-- a head and the parts after it
abbrev pub head_seen : Result (Bor Text × Bor (List Value)) Fault → Reading (Text × List Data)
head_seen (Ok p) = Ok (p.0.now, map view p.1.now)
head_seen (Err e) = Err e
