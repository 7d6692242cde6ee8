-- Each type's list grows by exactly what the steps tell.
use Rattle.std.proofs.Common.{Contains, IsTrue, List, None, [], ap, append-nil, append_assoc, arith, length, map, refl, sym, ℕ, ◌++◌, ◌+◌, ◌∙◌, ◌∷◌, ◌≡◌}
use Rattle.std.specs.List.{enumerate_from}
use Rattle.std.proofs.lemmas.{Bool.cases_Bool, Bool.Decides.eqb_tells, Grind.flat_map-append, List.length-map, List.map-append}
use Rattle.msg_buffer.specs.Prelude.{Entry, History, count, has_room, stamped, write}
use Rattle.msg_world.specs.{Prelude.Values, Prelude.WorldState, Prelude.after_update, Prelude.by, declared.record.Record.Record, declared.record.TheConstants.HOST}
use Rattle.msg_system.specs.{declared.limits.TheConstants.MAX_OPS, declared.op.Op.Op}
use Rattle.msg_system.specs.declared.op.Op.TheVariants.{Batch, Drain, Forward, Write}
use Rattle.msg_system.specs.Prelude.{AfterOp, AfterProgram, Job, Step, after_job, after_op, again_by, took, turn, wrote}
use Rattle.msg_frames.specs.Frames.{turn_order}
use Rattle.msg_frames.specs.Prelude.{Frame, IsSoundState, IsWrittenOnce, State, after_posts, after_turn_of, after_turns_of, all_written, before_turns, frame, post_steps, run, turns_steps}
use Rattle.msg_order.proofs.Elements.{Contains-head, Contains-tail}
use Rattle.msg_frames.proofs.{BeforeTurns.prepares, HistoriesGrow.by_ops, ReaderOverJob.by_system, StatesStaySound.frame_sound, StatesStaySound.prepared_sound, StatesStaySound.turn_below, SystemsStay.one_turn_keeps}

enumerate_from-append : {X : Type 0} (n : ℕ) (xs ys : List X)
    → enumerate_from n (xs ++ ys) ≡ enumerate_from n xs ++ enumerate_from (n + length xs) ys
enumerate_from-append n [] ys = grind arith
enumerate_from-append n (x ∷ xs) ys = grind (arith, enumerate_from-append (n + 1) xs ys)

module _ {V : Type 0} where
  abbrev messages : History (Record V) → List (Record V)
  messages h = map (λ e. e.message) h.entries

  stamped_are : (u : ℕ) (ms : List (Record V)) → map (λ (e : Entry (Record V)). e.message) (stamped u ms) ≡ ms
  stamped_are u [] = refl
  stamped_are u (m ∷ ms) = ap (λ (ys : List (Record V)). m ∷ ys) (stamped_are u ms)

  -- a write that has room adds these messages under the next numbers
  wrote_more : (h : History (Record V)) (ms : List (Record V)) → IsTrue (has_room h (length ms))
      → all_written (write ms h) ≡ all_written h ++ enumerate_from (count h) ms
  wrote_more h ms room =
      let are = map-append (λ (e : Entry (Record V)). e.message) h.entries (stamped h.updates ms) in
      let more = enumerate_from-append 0 (messages h) ms in
      let len = length-map h.entries (λ (e : Entry (Record V)). e.message) in
      grind (arith, are, more, len, stamped_are h.updates ms)

module _ {V : Type 0} {values : Values V} where
  -- first these steps, and then those
  pub written_further : (t : ℕ) (a : WorldState values) (xs : List (ℕ × Step values)) (b : WorldState values) (ys : List (ℕ × Step values)) (c : WorldState values)
      → IsWrittenOnce t a xs b → IsWrittenOnce t b ys c → IsWrittenOnce t a (xs ++ ys) c
  written_further t a xs b ys c x y =
      grind (arith, append_assoc, flat_map-append (λ (s : ℕ × Step values). wrote t s.0 s.1.op s.1.reply) xs ys)

module _ {V : Type 0} {values : Values V} (t : ℕ) where
  -- the op adds what it is told that it wrote
  op_writes : (op : Op V) (i : ℕ) (places : ℕ → ℕ) (w : WorldState values) →
      let after = after_op op i places w in
      all_written (after.world.histories t) ≡ all_written (w.histories t) ++ wrote t i op after.reply
  op_writes (Write u v) i places w =
      grind (arith, append-nil, cases_Bool, eqb_tells, wrote_more (w.histories u) (by i v ∷ []))
  op_writes (Batch u vs) i places w =
      grind (arith, append-nil, cases_Bool, eqb_tells, wrote_more (w.histories u) (map (by i) vs))
  op_writes (Forward a u) i places w =
      let more = wrote_more (w.histories u) (again_by i (took (w.histories a) (places a) None).items) in
      grind (arith, append-nil, cases_Bool, eqb_tells, more)
  op_writes (Drain u) i places w = grind (arith, append-nil, eqb_tells)
  op_writes op i places w = grind (arith, append-nil)

  no_steps : (w : WorldState values) → IsWrittenOnce t w [] w
  no_steps w = record { grew = sym (append-nil (all_written (w.histories t))) }

  job_writes : (i : ℕ) (j : Job V) (w : WorldState values) → j.system.writer ≡ i
      → IsWrittenOnce t w (by_system i (after_job j w).steps) (after_job j w).world
  unfolding turn
  job_writes i j w is =
      let m = j.system in
      let ops = by_ops (λ (far : AfterProgram values). IsWrittenOnce t w (by_system m.writer far.steps) far.world) m w (no_steps w)
      (λ op far next so.
      let here : AfterOp values = after_op op m.writer far.places far.world in
      let done : Step values = record { op = op; places = far.places; world = far.world; reply = here.reply } in
      rw (map-append {B = ℕ × Step values} (λ (x : Step values). (m.writer, x)) far.steps (done ∷ []))
      (written_further t w (by_system m.writer far.steps) far.world (by_system m.writer (done ∷ [])) here.world so
      (record { grew = rw (append-nil (wrote t m.writer op here.reply)) (op_writes op m.writer far.places far.world) }))) MAX_OPS in
      grind (arith, cases_Bool, is, no_steps w, ops)

  pub turns_write : (is : List ℕ) (s : State values) → ((i : ℕ) → Contains is i → (s.members i).job.system.writer ≡ i)
      → IsWrittenOnce t s.world (turns_steps is s) (after_turns_of is s).state.world
  turns_write [] s own = no_steps s.world
  turns_write (i ∷ is) s own =
      let next = after_turn_of i s in
      let later = λ (k : ℕ) (at : Contains is k). ((one_turn_keeps i s).members k).writer ∙ own k (Contains-tail i is k at) in
      written_further t _ (by_system i (after_job (s.members i).job s.world).steps) _ _ _
      (job_writes i (s.members i).job s.world (own i (Contains-head i is))) (turns_write is next later)

  posts_write : (posts : List (ℕ × V)) (w : WorldState values)
      → IsWrittenOnce t w (post_steps posts w) (after_posts posts w)
  posts_write [] w = no_steps w
  posts_write (p ∷ ps) w =
      let here = op_writes (Write p.0 p.1) HOST (λ t. 0) w in
      let next : WorldState values = after_posts (p ∷ []) w in
      written_further t _ (post_steps (p ∷ []) w) _ (post_steps ps next) _
      (record { grew = rw (append-nil (wrote t HOST (Write p.0 p.1) (after_op (Write p.0 p.1) HOST (λ t. 0) w).reply)) here })
      (posts_write ps next)

  pub before_writes : (posts : List (ℕ × V)) (s : State values)
      → IsWrittenOnce t s.world (post_steps posts (after_update s.world)) (before_turns posts s).world
  before_writes posts s = record {
    grew = grind (arith, cases_Bool, (posts_write posts (after_update s.world)).grew);
  }

  pub run_writes : (frames : List (Frame V)) (s : State values) → IsSoundState s
      → IsWrittenOnce t s.world (run frames s).steps (run frames s).state.world
  run_writes [] s sound = no_steps s.world
  run_writes (f ∷ fs) s sound =
      let b : State values = before_turns f.posts s in
      let ready : IsSoundState b = prepared_sound s b sound (prepares f.posts s) in
      let own = λ (i : ℕ) (at : Contains (turn_order b) i). ready.writers i (turn_below b i at) in
      let rest = run_writes fs (frame f s).state (frame_sound f s sound) in
      written_further t _ _ _ ((run fs (frame f s).state).steps) _
      (written_further t _ _ _ _ _ (before_writes f.posts s) (turns_write (turn_order b) b own)) rest
