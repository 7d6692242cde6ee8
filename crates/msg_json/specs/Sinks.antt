-- What sinks show, what a put does to them, and what a text in several puts leaves.
use Rattle.std.specs.Prelude.{◌≡◌, ◌≢◌, ◌⊎◌, ℕ, ◌+◌, ◌-◌, ◌^◌, min, ◌==◌, if◌then◌else◌, List, [], ◌∷◌, ◌++◌, Option, Result, Ok, Err, IsErr, OnErr, OnOk}
use Rattle.std.specs.Io.KnownBytes.{Appends}
use Rattle.msg_json.specs.Text.{Text}
use Rattle.msg_json.specs.declared.report_fault.ReportFault.{ReportFault}
use Rattle.msg_json.specs.declared.report_fault.ReportFault.TheVariants as report_fault

-- a sink in memory: the bytes that it took, and how often it failed
pub record InMemory : Type 0 where
  pub contents : List ℕ
  pub failures : ℕ

-- a sink over a writer, and how often it failed
pub record OverWriter (W : Type 0) : Type 0 where
  pub writer : W
  pub failures : ℕ

-- one failure more, up to the greatest value of a u64
abbrev pub one_failure_more : ℕ → ℕ
one_failure_more n = min (n + 1) (2 ^ 64 - 1)

-- the failures after a put of this piece: an error is one, and so is 0 for a piece that isn't empty
abbrev pub failures_after : {E : Type 0} → ℕ → Result ℕ E → List ℕ → ℕ
failures_after n (Err e) piece = one_failure_more n
failures_after n (Ok k) [] = n
failures_after n (Ok k) (x ∷ xs) = if k == 0 then one_failure_more n else n

-- a sink's answer that tells the answer of a writer: its number, or that it failed
abbrev pub IsAnsweredAs : {E F : Type 0} → Result ℕ E → Result ℕ F → Type 0
IsAnsweredAs (Ok n) answer = answer ≡ Ok n
IsAnsweredAs (Err e) answer = IsErr answer

-- known bytes grow by a front of a text
abbrev pub AppendsPrefix : Option (List ℕ) → Option (List ℕ) → List ℕ → Type 0
AppendsPrefix old new text =
    (front : List ℕ) × (rest : List ℕ) × (text ≡ front ++ rest) × Appends old new front

-- known bytes grow by a text, and maybe by more after it
abbrev pub AppendsAtLeast : Option (List ℕ) → Option (List ℕ) → List ℕ → Type 0
AppendsAtLeast old new text = (more : List ℕ) × Appends old new (text ++ more)

-- the text was taken whole and without a failure, or a front of it and then a put failed
abbrev pub TakesUnlessFailed : Option (List ℕ) → Option (List ℕ) → ℕ → ℕ → List ℕ → Type 0
TakesUnlessFailed old new failures failures' text =
    (Appends old new text × (failures' ≡ failures))
    ⊎ (AppendsPrefix old new text × (failures' ≡ one_failure_more failures))

-- What a put of a text left that came to this: the text was taken whole, or a front of it, and then
-- the sink failed or was given nothing.
pub record IsPut {S : Type 0} (contents : S → Option (List ℕ)) (failures : S → ℕ) (text : Text)
    (came : Result (Unit {0}) ReportFault) (old new : S) : Type 0 where
  pub ok : OnOk came (Appends (contents old) (contents new) text)
  pub quiet : OnOk came (failures new ≡ failures old)
  pub part : OnErr came (AppendsPrefix (contents old) (contents new) text)
  pub failed : came ≡ Err report_fault.Write → failures new ≡ one_failure_more (failures old)
  pub none : OnErr came (came ≢ Err report_fault.Write → new ≡ old)
