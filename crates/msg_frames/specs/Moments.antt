-- What a reader was given over a run, moment by moment.
use Rattle.std.specs.Prelude.{IfSome, List, [], drop, filter, flat_map, if◌then◌else◌, map, take, unwrap_or, ℕ, ◌++◌, ◌==◌, ◌∷◌, ◌≡◌}
use Rattle.msg_order.specs.Prelude.{has_joined}
use Rattle.msg_buffer.specs.Prelude.{History, Stretch, instances, message_of}
use Rattle.msg_world.specs.{Prelude.Values, declared.record.Record.Record}
use Rattle.msg_system.specs.Prelude.{Step}
use Rattle.msg_frames.specs.{Entries.ReadEntry, Entries.entry_for, Frames.State, Frames.before_turns, Frames.frame, Frames.join_flags, Frames.run, Frames.turn_order, Frames.turns_steps, declared.frame.Frame.Frame}

-- ---- the moments of a run

-- An entry, beside its type's history and the reader's place as they were just then.
pub record Moment (V : Type 0) : Type 0 where
  pub history : History (Record V)
  pub place : ℕ
  pub entry : ReadEntry V

module _ {V : Type 0} where
  -- the messages of a stretch
  abbrev pub messages_of : History (Record V) → Stretch → List (Record V)
  messages_of h stretch = map message_of (take stretch.number (drop stretch.first (instances h)))

  -- an entry that gave messages gave those of its stretch
  abbrev pub GivesItsStretch : Moment V → Type 0
  GivesItsStretch m = IfSome m.entry.given (λ items. items ≡ messages_of m.history m.entry.stretch)

module _ {V : Type 0} {values : Values V} where
  -- the moments of a step, for a reader of type t: one if its op went past some, else none
  abbrev pub moments_at : ℕ → Step values → List (Moment V)
  moments_at t x =
      map (λ e. record { history = x.world.histories t; place = x.places t; entry = e })
      (entry_for t x.op x.reply)

  -- the steps of system i
  abbrev pub steps_of : ℕ → List (ℕ × Step values) → List (Step values)
  steps_of i xs = map (λ x. x.1) (filter (λ x. x.0 == i) xs)

  -- the moments of system i in a run of frames
  abbrev pub moments : ℕ → ℕ → List (Frame V) → State values → List (Moment V)
  moments i t frames s = flat_map (moments_at t) (steps_of i (run frames s).steps)

module _ {V : Type 0} {values : Values V} where
  -- the steps of system i in its turns in a run of frames
  abbrev pub own_steps_in : ℕ → List (Frame V) → State values → List (Step values)
  own_steps_in i [] s = []
  own_steps_in i (f ∷ frames) s =
      let ready : State values = before_turns f.posts s in
      steps_of i (turns_steps (turn_order ready) ready) ++ own_steps_in i frames (frame f s).state

-- ---- where a run finds a reader

module _ {V : Type 0} {values : Values V} where
  -- the place of system i in type t
  abbrev pub reader_place : State values → ℕ → ℕ → ℕ
  reader_place s i t = (s.members i).job.system.places t

  -- Where a run from s to u finds a reader: at its place if it had joined, else where it starts as it
  -- joins, which its totals in u tell.
  abbrev pub found_at : State values → State values → ℕ → ℕ → ℕ
  found_at s u i t = if has_joined (join_flags s) i then reader_place s i t
      else unwrap_or ((u.members i).totals t).start 0
