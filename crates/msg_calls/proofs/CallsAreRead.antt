-- The calls of a file, read one after another.
use Rattle.std.proofs.Common.{◌≡◌, ℕ, ◌≤◌, List, [], ◌∷◌, ◌++◌, ◌+◌, inl, inr, append_assoc, refl, Ok, Err, drop, ◌∙◌, arith, map}
use Rattle.serde_json.specs.{View.view, declared.value.Value.Value}
use Rattle.msg_json.specs.Prelude.{Reads, in_element}
use Rattle.msg_json.specs.declared.fault.Fault.{Fault}
use Rattle.msg_json.proofs.WalksOverLists.{behind, behind_more}
use Rattle.msg_calls.specs.Prelude.{Call, call_of, calls_from, cursors_exist, made_by}
use Rattle.msg_calls.specs.inner.Cursors.{FitsCursors}
use Rattle.msg_calls.specs.declared.limits.TheConstants.{MAX_CURSORS}

-- the calls so far were read, and those from i on are left
pub record CallsLeft (items : List Value) (i : ℕ) (calls : List Call) (made : ℕ) : Type 0 where
  pub so_far : calls_from 1 0 (map view items)
      ≡ behind calls (calls_from made i (map view (drop i items)))
  pub cursors : (rest : List Call) → cursors_exist 1 (calls ++ rest) ≡ cursors_exist made rest
  pub room : made ≤ MAX_CURSORS

module _ (items : List Value) (i : ℕ) (calls : List Call) (made : ℕ) (left : CallsLeft items i calls made)
    (v : Value) (is : drop i items ≡ v ∷ drop (i + 1) items) where
  -- a call that is refused refuses the list
  pub calls_refused : (e : Fault) → Reads (in_element i (call_of made (view v))) (Err e)
      → Reads (calls_from 1 0 (map view items)) (Err e)
  calls_refused e (inl h) = inl h
  calls_refused e (inr h) = inr (left.so_far ∙ rw (is, h) refl)

  -- one call more
  pub calls_more : (call : Call) → in_element i (call_of made (view v)) ≡ Ok call → FitsCursors made call
      → CallsLeft items (i + 1) (calls ++ call ∷ []) (made + made_by call)
  calls_more call reads fits = record {
    so_far = left.so_far ∙ rw (is, reads) (behind_more calls call _);
    cursors = λ rest. grind (arith, append_assoc, left.cursors, fits.0);
    room = fits.1 left.room;
  }
