-- What a fault of a file says of its bytes.
use Rattle.std.proofs.Common.{◌≢◌, List, ℕ, refl, inl, inr}
use Rattle.serde_json.specs.Data.{Data}
use Rattle.msg_json.specs.Prelude.{IsFaultOf, IsJsonOf, IsRefusedFor, IsUnread, refusal_of}
use Rattle.msg_json.specs.declared.refusal.Refusal.TheVariants.{NoMemory, NotJson}
use Rattle.msg_json.specs.declared.fault.Fault.{Fault}
use Rattle.msg_json.specs.declared.file_fault.FileFault.{FileFault}
use Rattle.msg_json.specs.declared.file_fault.FileFault.TheVariants as file_fault

-- what isn't read is a fault, whatever is wanted in the file
pub unread_is_fault : (has : Data → Fault → Type 0) (bytes : List ℕ) (e : FileFault) → IsUnread bytes e
    → IsFaultOf has bytes e
unread_is_fault has bytes (file_fault.NotJson line column) h = h
unread_is_fault has bytes (file_fault.At e) h = inl h

-- the refusal for a fault is that of the value that the bytes are the text of
pub refused_for : (has : Data → Fault → Type 0) (bytes : List ℕ) (e : FileFault) → IsFaultOf has bytes e
    → refusal_of e ≢ NotJson → refusal_of e ≢ NoMemory
    → (d : Data) × IsJsonOf bytes d × IsRefusedFor (has d) (refusal_of e)
refused_for has bytes (file_fault.NotJson line column) h other known = absurd (other refl)
refused_for has bytes (file_fault.At e) (inl h) other known = absurd (known (rw h refl))
refused_for has bytes (file_fault.At e) (inr h) other known = (h.0, h.1, (e, h.2, refl))
