-- What sources show, and what a read does to them.
use Rattle.std.specs.Prelude.{ℕ, Result, Ok, Err}
use Rattle.msg_json.specs.Sinks.{one_failure_more}

-- a source over a reader, how often it failed, and how many reads it still answers
pub record OverReader (B : Type 0) : Type 0 where
  pub reader : B
  pub failures : ℕ
  pub reads_left : ℕ

-- the failures after a read: an error is one
abbrev pub failures_after_read : {A E : Type 0} → ℕ → Result A E → ℕ
failures_after_read n (Ok k) = n
failures_after_read n (Err e) = one_failure_more n
