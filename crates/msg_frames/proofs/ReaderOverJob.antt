-- What a reader goes past by an op, by a turn and by a job.
use Rattle.std.proofs.Common.{All, List, None, Option, Some, [], ap, arith, cond, flat_map, map, refl, ℕ, ◌++◌, ◌+◌, ◌==◌, ◌∙◌, ◌∷◌, ◌≡◌, ◌≤◌}
use Rattle.std.proofs.lemmas.{Bool.cases_Bool, Bool.Decides.eqb_tells, Grind.flat_map-append, List.append-nil, List.length-map, List.map-append, List.map-id, List.Elements.All-append, List.Elements.All-cons, List.Elements.All-nil, List.Elements.All-weaker, Simd.map-map}
use Rattle.msg_buffer.specs.Prelude.{Fits, GoesOn, History, IsSound, Stretch, Tile, count, given, message_of, next_place, pass_over, read}
use Rattle.msg_buffer.proofs.Tiles.{clears_fit, reads_fit}
use Rattle.msg_world.specs.{Prelude.Values, Prelude.WorldState, declared.record.Record.Record}
use Rattle.msg_system.specs.{declared.limits.TheConstants.MAX_OPS, declared.op.Op.Op}
use Rattle.msg_system.specs.Prelude.{AfterOp, AfterProgram, Job, Meaning, Step, after_at_most, after_job, after_op, next_op, one_more, took, turn, with_place}
use Rattle.msg_system.specs.declared.op.Op.TheVariants.{Clear, Forward, Read, Sum}
use Rattle.msg_frames.specs.Prelude.{GivesItsStretch, Moment, ReadEntry, entries_at, entry_for, entry_of_read, moments_at}
use Rattle.msg_frames.proofs.HistoriesGrow.{Grows, by_ops, counts_more, goes_further, grown, op_changes, stays}

module _ {V : Type 0} {values : Values V} where
  -- these steps, each beside who took it
  abbrev pub by_system : ℕ → List (Step values) → List (ℕ × Step values)
  by_system i xs = map (λ x. (i, x)) xs

module _ {V : Type 0} where
  -- a moment, as a tile of the buffers' laws
  abbrev pub tile_of : Moment V → History (Record V) × Stretch
  tile_of m = (m.history, m.entry.stretch)

  -- what it goes past was written by then
  abbrev pub IsWritten : Moment V → Type 0
  IsWritten m = next_place m.entry.stretch ≤ count m.history

  -- it begins at the reader's place, past those that it missed
  abbrev pub Begins : Moment V → Type 0
  Begins m = m.entry.stretch.first ≡ m.place + m.entry.stretch.missed

-- A reader goes past these moments from one place to another, while the history of its type goes on.
pub record Passes {V : Type 0} (place : ℕ) (old : History (Record V)) (ms : List (Moment V)) (next : ℕ) (new : History (Record V)) : Type 0 where
  pub goes_on : GoesOn old new
  pub within : next ≤ count new
  pub tile : Tile place (map tile_of ms) next
  pub begins : All Begins ms
  pub gives : All GivesItsStretch ms
  pub earlier : All (λ m. GoesOn m.history new) ms
  pub written : All IsWritten ms

module _ {V : Type 0} where
  tile-append : (p : ℕ) (xs : List (History (Record V) × Stretch)) (q : ℕ) (ys : List (History (Record V) × Stretch)) (r : ℕ)
      → Tile p xs q → Tile q ys r → Tile p (xs ++ ys) r
  tile-append p [] q ys r a b = rw a b
  tile-append p (x ∷ xs) q ys r a b = grind (arith, tile-append (next_place x.1) xs q ys r)

  -- first these moments, and then those
  pub passes_further : (p : ℕ) (a : History (Record V)) (ms : List (Moment V)) (q : ℕ) (b : History (Record V)) (ns : List (Moment V))
      (r : ℕ) (c : History (Record V))
      → Passes p a ms q b → Passes q b ns r c → Passes p a (ms ++ ns) r c
  passes_further p a ms q b ns r c x y =
      let begins = All-append Begins ms ns x.begins y.begins in
      let gives = All-append GivesItsStretch ms ns x.gives y.gives in
      let longer = λ (m : Moment V) (g : GoesOn m.history b). goes_further m.history b c g y.goes_on in
      let earlier = All-append (λ m. GoesOn m.history c) ms ns (All-weaker _ _ longer ms x.earlier) y.earlier in
      let written = All-append IsWritten ms ns x.written y.written in
      let tile = tile-append p (map tile_of ms) q (map tile_of ns) r x.tile y.tile in
      grind (arith, goes_further a b c, map-append tile_of ms ns, begins, gives, earlier, written, tile)

  -- nothing is gone past
  pub passes_nothing : (p : ℕ) (a b : History (Record V)) → p ≤ count a → GoesOn a b → Passes p a [] p b
  passes_nothing p a b within goes = grind (arith, All-nil, counts_more)

  -- a single entry
  pub passes_one : (p : ℕ) (a : History (Record V)) (e : ReadEntry V) (b : History (Record V)) → Fits a p e.stretch
      → next_place e.stretch ≤ count a
      → GivesItsStretch (record { history = a; place = p; entry = e }) → GoesOn a b
      → Passes p a (record { history = a; place = p; entry = e } ∷ []) (next_place e.stretch) b
  passes_one p a e b fits within gives goes = grind (arith, All-cons, All-nil, counts_more)

module _ {V : Type 0} {values : Values V} where
  -- the moment of an entry of type u, for type t
  abbrev moments_if : ℕ → ℕ → (ℕ → ℕ) → WorldState values → ReadEntry V → List (Moment V)
  moments_if u t ps w e = map (λ x. record { history = w.histories t; place = ps t; entry = x }) (cond (u == t) (e ∷ []) [])

  -- a reader of type t goes past these moments, from these places in a world to those in another
  abbrev pub GoesPast : ℕ → (ℕ → ℕ) → WorldState values → List (Moment V) → (ℕ → ℕ) → WorldState values → Type 0
  GoesPast t ps w ms qs v = IsSound (w.histories t) → ps t ≤ count (w.histories t)
      → Passes (ps t) (w.histories t) ms (qs t) (v.histories t)

  -- the moments of steps, for readers of type t
  abbrev pub moments_of : ℕ → List (Step values) → List (Moment V)
  moments_of t xs = flat_map (moments_at t) xs

  -- the moments of the next op
  abbrev pub next_moments : ℕ → Op V → ℕ → AfterProgram values → List (Moment V)
  next_moments t op writer far =
      map (λ e. record { history = far.world.histories t; place = far.places t; entry = e })
      (entry_for t op (after_op op writer far.places far.world).reply)

  -- one op more
  more_are : (t : ℕ) (op : Op V) (writer : ℕ) (far : AfterProgram values)
      → moments_of t (one_more (Some op) writer far).steps ≡ moments_of t far.steps ++ next_moments t op writer far
  more_are t op writer far =
      let here : AfterOp values = after_op op writer far.places far.world in
      let done : Step values = record { op = op; places = far.places; world = far.world; reply = here.reply } in
      flat_map-append (moments_at t) far.steps (done ∷ [])
      ∙ ap (λ (ms : List (Moment V)). moments_of t far.steps ++ ms) (append-nil (moments_at t done))

  module _ (t : ℕ) where
    -- an op that reads type u
    of_type : (u : ℕ) (w : WorldState values) (v : History (Record V)) (ps : ℕ → ℕ) (e : ReadEntry V) (q : ℕ)
        → ps t ≤ count (w.histories t) → GoesOn (w.histories t) v
        → (u ≡ t → Passes (ps t) (w.histories t) (record { history = w.histories t; place = ps t; entry = e } ∷ []) q v)
        → Passes (ps t) (w.histories t) (moments_if u t ps w e) (with_place ps u q t) v
    of_type u w v ps e q within goes passes =
        grind (arith, eqb_tells, passes_nothing (ps t) (w.histories t) v within goes)

    of_read : (u : ℕ) (w v : WorldState values) (ps : ℕ → ℕ) (limit : Option ℕ) → Grows (w.histories t) (v.histories t)
        → GoesPast t ps w (moments_if u t ps w (entry_of_read (took (w.histories u) (ps u) limit)))
        (with_place ps u (next_place (read (w.histories u) (ps u) limit))) v
    of_read u w v ps limit grows sound within =
        let h : History (Record V) = w.histories t in
        let law = reads_fit h (ps t) limit sound in
        of_type u w _ ps _ _ within (grows sound) (λ e. rw (e, length-map (given h (ps t) limit) message_of)
        (passes_one (ps t) h (record { stretch = read h (ps t) limit; given = Some _ }) _ law.0 (law.2 within)
        (ap (map message_of) law.1) (grows sound)))

    pub next_passes : (op : Op V) (writer : ℕ) (far : AfterProgram values) →
        let more = one_more (Some op) writer far in
        GoesPast t far.places far.world (next_moments t op writer far) more.places more.world
    next_passes (Read u limit) writer far = of_read u far.world far.world far.places limit (stays _)
    next_passes (Clear u) writer far = λ sound within.
        let h : History (Record V) = far.world.histories t in
        let law = clears_fit h (far.places t) sound in
        let entry : ReadEntry V = record { stretch = pass_over h (far.places t); given = None } in
        of_type u far.world _ far.places _ _ within (stays _ sound) (λ e. rw (e, ← law.1 within)
        (passes_one (far.places t) h entry _ law.0 (omega (arith, law.1 within)) tt (stays _ sound)))
    next_passes (Forward u v) writer far =
        of_read u far.world (after_op (Forward u v) writer far.places far.world).world far.places None
        (op_changes Grows grown (Forward u v) writer far.places far.world t)
    next_passes (Sum u r) writer far = of_read u far.world far.world far.places None (stays _)
    next_passes op writer far = λ sound within.
        let goes = op_changes Grows grown op writer far.places far.world t sound in
        grind (arith, cases_Bool, passes_nothing (far.places t) (far.world.histories t) _ within goes)

    pub first_passes : (n : ℕ) (m : Meaning V) (w : WorldState values) →
        let far = after_at_most n (next_op m) m.writer m.places w in
        GoesPast t m.places w (moments_of t far.steps) far.places far.world
    first_passes n m w sound within =
        let so_far = λ (far : AfterProgram values).
        Passes (m.places t) (w.histories t) (moments_of t far.steps) (far.places t) (far.world.histories t) in
        by_ops so_far m w (passes_nothing _ _ _ within (stays _ sound)) (λ op far is so. rw (more_are t op m.writer far)
        (passes_further _ _ _ _ _ _ _ _ so (next_passes op m.writer far so.goes_on.sound so.within))) n

    turn_passes : (m : Meaning V) (w : WorldState values)
        → GoesPast t m.places w (moments_of t (turn m w).steps) (turn m w).places (turn m w).world
    unfolding turn
    turn_passes m w = first_passes MAX_OPS m w

    pub job_passes : (j : Job V) (w : WorldState values) →
        let after = after_job j w in
        GoesPast t j.system.places w (moments_of t after.steps) after.job.system.places after.world
    job_passes j w sound within =
        let none = passes_nothing _ _ _ within (stays _ sound) in
        grind (arith, cases_Bool, none, turn_passes j.system w sound within)

  -- the entries of steps are those of their moments
  pub entries_are : (t : ℕ) (xs : List (Step values)) → map (λ m. m.entry) (moments_of t xs) ≡ entries_at t xs
  entries_are t [] = refl
  entries_are t (x ∷ xs) = grind (arith, map-append, map-map, map-id (entry_for t x.op x.reply), entries_are t xs)
