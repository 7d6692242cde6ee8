-- What the functions that are there already make of what they are given.
use Rattle.std.specs.Prelude.{ℕ, ◌-◌, ◌++◌, Bool, List, [], filter, fold, length, map, nat_lt, if◌then◌else◌}
use Rattle.msg_world.specs.{declared.record.Record.Record, Prelude.Values}
use Rattle.msg_system.specs.Prelude.{sum_onto}
use Rattle.msg_function.specs.declared.ready.count.Count.{Count}
use Rattle.msg_function.specs.declared.ready.filter.Filter.{Filter}
use Rattle.msg_function.specs.declared.ready.sum.Sum.{Sum}
use Rattle.msg_function.specs.Functions.{Answer, FunctionOf, nothing, put, put_all}

module _ {V : Type 0} where
  -- the values of messages
  abbrev pub values_of : List (Record V) → List V
  values_of messages = map (λ m. m.value) messages

  -- the values that pass, in order
  abbrev pub filtered : {T : Type 0} → (T → V → Bool) → FunctionOf V (Filter T)
  filtered passes f given =
      (f, put_all 0 (filter (passes f.test) (values_of (given.messages 0))) nothing)

  -- What stands is written if messages came.
  abbrev pub if_some_came : List (Record V) → V → Answer V
  if_some_came messages v = if nat_lt 0 (length messages) then put 0 v nothing else nothing

  -- the sum so far
  abbrev pub summed : Values V → FunctionOf V (Sum V)
  summed values s given =
      let so_far : V = sum_onto values.plus s.so_far (given.messages 0) in
      (record { so_far = so_far }, if_some_came (given.messages 0) so_far)

  -- how many came so far, if each of these adds `one` too
  abbrev pub counted_on : Values V → V → V → List (Record V) → V
  counted_on values one so_far messages = fold (λ n m. values.plus n one) so_far messages

  -- the count so far
  abbrev pub counted : Values V → FunctionOf V (Count V)
  counted values c given =
      let so_far : V = counted_on values c.one c.so_far (given.messages 0) in
      (record c { so_far = so_far }, if_some_came (given.messages 0) so_far)

-- What is held back: the values that are kept, and in how many turns they are written.
pub record Held (V : Type 0) : Type 0 where
  pub every : ℕ
  pub left : ℕ
  pub kept : List V

-- All that is kept is written in the last of so many turns.
abbrev pub held_back : {V : Type 0} → FunctionOf V (Held V)
held_back {V} h given =
    let kept : List V = h.kept ++ values_of (given.messages 0) in
    if nat_lt 1 h.left then (record h { left = h.left - 1; kept = kept }, nothing)
    else (record h { left = h.every; kept = [] }, put_all 0 kept nothing)
