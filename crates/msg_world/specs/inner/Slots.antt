-- What the private functions on lists of slots say. No public contract cites these.
use Rattle.std.specs.Prelude.{◌≡◌, ℕ, Bool, Option, None, IfSome, IsSome, IsTrue, is_some, List, length, slice_index_or}
use Rattle.msg_buffer.specs.Prelude.{History, Kept, StandsFor, update}
use Rattle.msg_world.specs.declared.record.Record.{Record}

-- what slot k holds: nothing past the end
abbrev pub at : {X : Type 0} → List (Option X) → ℕ → Option X
at xs k = slice_index_or xs k None

-- each slot whose number passes a test holds something
abbrev pub HaveEach : {X : Type 0} → List (Option X) → (ℕ → Bool) → Type 0
HaveEach xs test = (k : ℕ) → IsTrue (test k) → IsSome (at xs k)

module _ {V : Type 0} where
  -- the buffer in a slot stands for a history, if there is one
  abbrev pub BufferStands : Option (Kept (Record V)) → History (Record V) → Type 0
  BufferStands b h = IfSome b (λ k. StandsFor k h)

-- each buffer was updated, and slots that were empty are
pub record AllUpdated {V : Type 0} (old new : List (Option (Kept (Record V)))) : Type 0 where
  pub length : length new ≡ length old
  pub there : (t : ℕ) → is_some (at new t) ≡ is_some (at old t)
  pub updated : (t : ℕ) (h : History (Record V)) → BufferStands (at old t) h
      → BufferStands (at new t) (update h)
