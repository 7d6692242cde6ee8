-- What holds of readers over every run.
use Rattle.msg_frames.specs.{declared.backlog.Backlog.Backlog, declared.frame.Frame.Frame, declared.log.Log.Log, declared.place.Place.Place}
use Rattle.msg_frames.specs.Prelude.{IsBalanced, IsSoundState, State, account_of, backlog_of, entries_in_run, first_state, found_at, frame, join_flags, no_totals, reader_place, refused_in_run, replies_of, run, totals_from, with_entries, with_refused}
use Rattle.msg_order.specs.Prelude.{has_joined}
use Rattle.msg_order.specs.declared.rule.Rule.{Rule}
use Rattle.msg_buffer.specs.Prelude.{count}
use Rattle.msg_system.specs.{Prelude.Meaning, Prelude.is_cut, declared.reply.Reply.Reply, declared.start.Start.Start, declared.start.Start.TheVariants.Current, declared.start.Start.TheVariants.Zero}
use Rattle.msg_world.specs.{Prelude.Values, Prelude.WorldState, declared.part.Part.TheVariants.OfType, declared.record.TheConstants.HOST}
use Rattle.std.specs.Prelude.{IsFalse, IsTrue, List, filter, flat_map, map, not, ℕ, ◌+◌, ◌++◌, ◌<◌, ◌∷◌, ◌≡◌}

module _ {V : Type 0} where
  -- the replies of a turn to the ops that were done
  abbrev pub done_in : List (Reply V) → List (Reply V)
  done_in replies = filter (λ r. not (is_cut r)) replies

  -- the replies of the logs to what was done, each beside whom it was given to
  abbrev pub answers_of : List (Log V) → List (ℕ × Reply V)
  answers_of logs = flat_map (λ log. map (λ r. (HOST, r)) log.posts
      ++ flat_map (λ turn. flat_map (λ replies. map (λ r. (turn.system, r)) (done_in replies))
      (replies_of turn.outcome)) log.turns) logs

module _ {V : Type 0} {values : Values V} where
  -- the steps of a run have the replies of its logs to what was done, in that order
  abbrev pub AreAnswered : List (Frame V) → State values → Type 0
  AreAnswered frames s = map (λ x. (x.0, x.1.reply)) (run frames s).steps
      ≡ answers_of (run frames s).logs

-- What the steps of a run were answered is what its logs say.
abbrev pub AllAreAnswered : {V : Type 0} → Values V → Type 0
AllAreAnswered {V} values = (frames : List (Frame V)) (s : State values) → AreAnswered frames s

-- From a first state the account of each reader counts all that its entries tell, from its start
-- on, where the run found it, and all that was refused.
abbrev pub AccountsBeginAtTheStart : {V : Type 0} → Values V → Type 0
AccountsBeginAtTheStart {V} values = (systems : List (Meaning V)) (places : List (Place V))
    (rules : List Rule) (types resources : ℕ) (world : WorldState values) (frames : List (Frame V))
    → let s : State values = first_state systems places rules types resources world in
    let u : State values = (run frames s).state in
    (i t : ℕ) → IsSoundState s → t < types → IsTrue (has_joined (join_flags u) i)
    → (u.members i).totals t
    ≡ with_refused (refused_in_run i t frames s)
    (with_entries (entries_in_run i t frames s) (totals_from (found_at s u i t)))

-- A reader's place is where such a start is, of a type with so many messages.
abbrev pub IsAtStart : Start → ℕ → ℕ → Type 0
IsAtStart Zero count place = place ≡ 0
IsAtStart Current count place = place ≡ count

-- A reader that joins with the first of these frames was found at its start: at 0, or at the count
-- that the frame finds.
abbrev pub LateReadersStart : {V : Type 0} → Values V → Type 0
LateReadersStart {V} values = (f : Frame V) (frames : List (Frame V)) (s : State values) (i t : ℕ)
    → IsSoundState s → t < s.types → IsFalse (has_joined (join_flags s) i)
    → IsTrue (has_joined (join_flags (frame f s).state) i)
    → IsTrue ((s.members i).job.system.needs.reads (OfType t))
    → IsAtStart (s.members i).job.system.start (count (s.world.histories t))
    (found_at s (run (f ∷ frames) s).state i t)

-- The start of a reader that has joined, with all that it got, missed and cleared since, leads to
-- its place.
abbrev pub AccountsBalance : {V : Type 0} → Values V → Type 0
AccountsBalance values = (s : State values) (i t : ℕ) → IsSoundState s → t < s.types
    → IsTrue (has_joined (join_flags s) i)
    → IsBalanced ((s.members i).totals t) (reader_place s i t)

-- The place of a reader, what was dropped past it and what it can still read add up to all that
-- was written.
abbrev pub BacklogsAddUp : {V : Type 0} → Values V → Type 0
BacklogsAddUp values = (s : State values) (i t : ℕ) → IsSoundState s → t < s.types →
    let left : Backlog = backlog_of s (account_of s i t) in
    reader_place s i t + left.lost + left.unread ≡ count (s.world.histories t)

-- A reader that hasn't joined has no totals, and stands at 0.
abbrev pub NoneBeforeJoining : {V : Type 0} → Values V → Type 0
NoneBeforeJoining values = (s : State values) (i t : ℕ) → IsSoundState s
    → IsFalse (has_joined (join_flags s) i)
    → ((s.members i).totals t ≡ no_totals) × (reader_place s i t ≡ 0)
