-- The history of a message type: one list of all messages ever written, which only grows. Nothing
-- is taken out of it, and nothing moves. Age and the floor decide which messages are still present.
use Rattle.std.specs.Prelude.{◌≡◌, ℕ, suc, ◌+◌, ◌≤◌, Bool, ◌&&◌, not, nat_le, ◌==◌, IsTrue, List, [], ◌∷◌, ◌++◌, length, map, filter, slice_get, Option, Some, None, option_and_then, if◌then◌else◌}
use Rattle.std.specs.List.{enumerate_from}
use Rattle.msg_buffer.specs.declared.instance.Instance.{Instance}

-- a message, stamped with the number of updates that had been made when it was written
pub record Entry (M : Type 0) : Type 0 where
  pub message : M
  pub stamp : ℕ

-- all messages ever written, in order of writing; an entry's number is its index
pub record History (M : Type 0) : Type 0 where
  -- at most so many are ever written
  pub limit : ℕ
  -- how many updates were made
  pub updates : ℕ
  -- what stands below this number was cleared or drained
  pub floor : ℕ
  pub entries : List (Entry M)

module _ {M : Type 0} where
  -- nothing was written, and no update was made
  abbrev pub empty : ℕ → History M
  empty limit = record { limit = limit; updates = 0; floor = 0; entries = [] }

  -- how many messages were ever written: the number that the next one gets
  abbrev pub count : History M → ℕ
  count h = length h.entries

  -- the entries, each beside its number
  abbrev pub numbered_entries : History M → List (ℕ × Entry M)
  numbered_entries h = enumerate_from 0 h.entries

  -- a message with its number
  abbrev pub instance_of : ℕ × Entry M → Instance M
  instance_of x = record { id = record { 0 = x.0 }; message = x.1.message }

  -- a message without its number
  abbrev pub message_of : Instance M → M
  message_of x = x.message

  -- messages under the numbers from n on
  abbrev pub numbered : ℕ → List M → List (Instance M)
  numbered n [] = []
  numbered n (m ∷ ms) = record { id = record { 0 = n }; message = m } ∷ numbered (n + 1) ms

  -- all messages ever written, each with its number
  abbrev pub instances : History M → List (Instance M)
  instances h = map instance_of (numbered_entries h)

  -- An entry is present: it isn't below the floor, and at most one update was made since.
  abbrev pub is_present : History M → ℕ × Entry M → Bool
  is_present h x = nat_le h.floor x.0 && nat_le h.updates (x.1.stamp + 1)

  -- It is present, and no update was made since it was written.
  abbrev pub is_current : History M → ℕ × Entry M → Bool
  is_current h x = is_present h x && (x.1.stamp == h.updates)

  -- the present messages, in order of writing
  abbrev pub present : History M → List (Instance M)
  present h = map instance_of (filter (is_present h) (numbered_entries h))

  -- those written since the last update
  abbrev pub current : History M → List (Instance M)
  current h = map instance_of (filter (is_current h) (numbered_entries h))

  -- how many entries aren't present: they are the first ones, so this is the number of the oldest
  -- that is
  abbrev pub oldest : History M → ℕ
  oldest h = length (filter (λ x. not (is_present h x)) (numbered_entries h))

  -- there is an entry of this number, and it is present
  abbrev pub IsPresent : History M → ℕ → Type 0
  IsPresent h n = (e : Entry M) × (slice_get h.entries n ≡ Some e) × IsTrue (is_present h (n, e))

  -- message n, if entry n is present
  abbrev pub get : History M → ℕ → Option M
  get h n = option_and_then (λ e. if is_present h (n, e) then Some e.message else None)
      (slice_get h.entries n)

  -- so many numbers are left
  abbrev pub has_room : History M → ℕ → Bool
  has_room h n = nat_le (count h + n) h.limit

  -- new entries, stamped with the number of updates
  abbrev pub stamped : ℕ → List M → List (Entry M)
  stamped updates ms = map (λ m. record { message = m; stamp = updates }) ms

  -- The history after a write: all messages are added at the end, or none if there are too few
  -- numbers.
  abbrev pub write : List M → History M → History M
  write ms h = if has_room h (length ms)
      then record h { entries = h.entries ++ stamped h.updates ms } else h

  -- the history after an update: everything is one update older
  abbrev pub update : History M → History M
  update h = record h { updates = suc h.updates }

  -- the history after a clear or a drain: all that was written is below the floor
  abbrev pub clear : History M → History M
  clear h = record h { floor = count h }

  -- no stamp falls along the list, the first is at least `low`, and none is above `high`
  abbrev pub HasRisingStamps : ℕ → List (Entry M) → ℕ → Type 0
  HasRisingStamps low [] high = low ≤ high
  HasRisingStamps low (e ∷ es) high = (low ≤ e.stamp) × HasRisingStamps e.stamp es high

-- what holds of every history that writes, updates and clears make
pub record IsSound {M : Type 0} (h : History M) : Type 0 where
  pub stamps : HasRisingStamps 0 h.entries h.updates
  pub floor : h.floor ≤ count h
  pub within_limit : count h ≤ h.limit

-- A history goes on as a later one: all that was written stays in its place.
pub record GoesOn {M : Type 0} (old new : History M) : Type 0 where
  pub more : List (Entry M)
  pub entries : new.entries ≡ old.entries ++ more
  pub limit : new.limit ≡ old.limit
  pub updates : old.updates ≤ new.updates
  pub floor : old.floor ≤ new.floor
  pub sound : IsSound new

module _ (M : Type 0) where
  -- A list of messages only grows, by every change that there is.
  abbrev pub OnlyGrows : Type 0
  OnlyGrows = (h : History M) → IsSound h
      → ((ms : List M) → GoesOn h (write ms h)) × GoesOn h (update h) × GoesOn h (clear h)

  -- What was written since the last update is all that is present after one more, and nothing is
  -- present after two.
  abbrev pub OutliveOneUpdate : Type 0
  OutliveOneUpdate = (h : History M) → IsSound h
      → (present (update h) ≡ current h) × (present (update (update h)) ≡ [])
