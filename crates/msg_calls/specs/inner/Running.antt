-- What the private functions of the runner promise: no public contract cites this file.
use Rattle.std.specs.Prelude.{◌≡◌, ◌++◌, ℕ, ℤ, List, Option}
use Rattle.std.specs.Io.KnownBytes.{Appends}
use Rattle.msg_buffer.specs.Prelude.{Kept, StandsFor}
use Rattle.msg_calls.specs.CallsText.{BufferState}

-- a buffer and its cursors are in a state
pub record AreIn (messages : Kept ℤ) (cursors : List ℕ) (s : BufferState) : Type 0 where
  pub stands : StandsFor messages s.history
  pub places : cursors ≡ s.places

-- known bytes grow by a front of a text, and this is the rest of it
pub record TakesFront (before after : Option (List ℕ)) (text rest : List ℕ) : Type 0 where
  pub front : List ℕ
  pub taken : Appends before after front
  pub parts : text ≡ front ++ rest
