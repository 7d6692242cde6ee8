-- The iterator of a read, and what each call of `next` does to it.
use Rattle.std.specs.Prelude.{◌≡◌, ℕ, ◌+◌, ◌-◌, List, [], ◌∷◌, ◌++◌, length, drop, Option, MatchOption}
use Rattle.std.specs.Borrow.{Bor, GName}
use Rattle.msg_buffer.specs.{declared.instance.Instance.Instance, declared.instance.MessageId.MessageId, declared.iter.MessageIter.MessageIter, Kept.Kept, Kept.kept_instances}

-- an item, as the instance that it shows
abbrev pub instance_shown : {M : Type 0} → MessageId × Bor M → Instance M
instance_shown item = record { id = item.0; message = item.1.now }

module _ {M A : Type 0} where
  -- the place of the cursor that it moves
  abbrev pub iter_place : MessageIter M A → ℕ
  iter_place it = it.cursor.now

  -- the reference to that cursor
  abbrev pub iter_cursor : MessageIter M A → GName
  iter_cursor it = it.cursor.ghost_name

  -- the buffer that it reads
  abbrev pub iter_messages : MessageIter M A → Bor (Kept M)
  iter_messages it = it.messages

  -- the messages still to come: those kept from the place on
  abbrev pub iter_rest : MessageIter M A → List (Instance M)
  iter_rest it = drop (iter_place it - it.messages.now.oldest) (kept_instances it.messages.now)

  -- it still reads the same buffer for the same cursor
  pub record Continues (old new : MessageIter M A) : Type 0 where
    pub cursor : iter_cursor new ≡ iter_cursor old
    pub messages : iter_messages new ≡ iter_messages old

  -- it gave the first message of what was left, and moved the place by one
  pub record Gives (old : MessageIter M A) (item : MessageId × Bor M)
      (new : MessageIter M A) : Type 0 where
    pub rest : iter_rest old ≡ instance_shown item ∷ iter_rest new
    pub place : iter_place new ≡ iter_place old + 1
    pub continues : Continues old new

  -- nothing was left, and the place stays
  pub record Ends (old new : MessageIter M A) : Type 0 where
    pub rest : iter_rest old ≡ []
    pub place : iter_place new ≡ iter_place old
    pub continues : Continues old new

  -- what a call of `next` does
  abbrev pub IterSteps : MessageIter M A → Option (MessageId × Bor M) → MessageIter M A → Type 0
  IterSteps old item new = MatchOption item (Ends old new) (λ x. Gives old x new)

-- An iterator that was `start` is now `now`. In between it gave these, and left none out.
pub record HasGiven {M A : Type 0} (start now : MessageIter M A)
    (taken : List (Instance M)) : Type 0 where
  pub given : iter_rest start ≡ taken ++ iter_rest now
  pub place : iter_place now ≡ iter_place start + length taken
  pub continues : Continues start now
