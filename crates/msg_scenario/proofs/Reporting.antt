-- The frames of a scenario, run one after another, and what the sink took of their text.
use Rattle.std.proofs.Common.{min, ◌^◌, ◌≡◌, ◌≢◌, ℕ, ◌+◌, ◌-◌, ◌<◌, List, [], ◌∷◌, ◌++◌, length, get_or, take, drop, refl, sym, ◌∙◌, append_assoc, append-nil, Option, Result, Ok, Err, IfErr, ap, arith, inl, inr, eq-eqb, ◌==◌, if◌then◌else◌, ◌⊎◌, ℤ}
use Rattle.std.proofs.lemmas.{Grind.common_steps, List.drop_more, List.take_more, List.take-append-drop}
use Rattle.std.proofs.Math.Seq.{take-append_seam, take-length}
use Rattle.std.specs.Io.KnownBytes.{Appends}
use Rattle.std.proofs.KnownBytes.{Appends-nil, Appends-trans}
use Rattle.msg_system.specs.Prelude.{Meaning}
use Rattle.msg_frames.specs.Prelude.{IsCompleteRun, State, before_turns, frame as frame_of, run}
use Rattle.msg_frames.specs.Frames.{turn_order}
use Rattle.msg_exec.specs.Prelude.{HasRunFrame, IsSpoiled, EngineStands, frame_number}
use Rattle.msg_frames.specs.{declared.frame.Frame.Frame, declared.log.Log.Log}
use Rattle.msg_exec.specs.declared.engine.EngineOf.{EngineOf}
use Rattle.msg_frames.proofs.{Functions.run_more, SystemsStay.frames_keep}
use Rattle.msg_world.specs.{declared.run_fault.RunFault.RunFault, Prelude.i64_values}
use Rattle.msg_world.specs.declared.run_fault.RunFault.TheVariants as run_fault
use Rattle.msg_json.specs.Prelude.{AppendsAtLeast, AppendsPrefix, IsPut, Text, one_failure_more}
use Rattle.msg_json.specs.declared.report_fault.ReportFault.{ReportFault}
use Rattle.msg_json.specs.declared.report_fault.ReportFault.TheVariants as report_fault
use Rattle.msg_scenario.specs.Prelude.{EndsInText, HasRunFirst, LeavesEngine, LeavesReport, frame_text, frames_text, readers_text, text_so_far}
use Rattle.msg_scenario.specs.declared.reports.accounts.Readers.{Readers}
use Rattle.msg_reading.specs.Prelude.{state_of}
use Rattle.msg_reading.specs.declared.scenario.Scenario.{Scenario}
use Rattle.msg_json.proofs.Puts.{AppendsPrefix_after}
use Rattle.msg_scenario.specs.inner.SoFar.{ReportSoFar}
use Rattle.msg_scenario.proofs.TextsByPieces.{zip-nil}

-- ---- texts

-- what follows the text of the frames: the readers' lines, if all frames were run
abbrev rest_of : Scenario → List (Log ℤ) → Text → Text
rest_of s logs readers = if length logs == length s.frames then readers else []

text_so_far_parts : (s : Scenario) (logs : List (Log ℤ)) (readers : Text)
    → text_so_far s logs readers ≡ frames_text s 1 s.frames logs ++ rest_of s logs readers
text_so_far_parts s logs readers = grind (arith, append-nil (frames_text s 1 s.frames logs))

-- the text of some frames, and then that of the frames after them
frames_text-append : (s : Scenario) (number : ℕ) (frames : List (Frame ℤ)) (first later : List (Log ℤ))
    → frames_text s number frames (first ++ later) ≡ frames_text s number frames first
    ++ frames_text s (number + length first) (drop (length first) frames) later
frames_text-append s number frames [] later = grind (arith, zip-nil {B = Log ℤ} frames)
frames_text-append s number [] (log ∷ first) later = refl
frames_text-append s number (frame ∷ frames) (log ∷ first) later =
    grind (arith, append_assoc, frames_text-append s (number + 1) frames first later)

-- ---- what a report came to

-- a report came to a fault
abbrev pub ended : ReportFault → Result (Unit {0}) ReportFault
ended fault = Err fault

-- if it ends in a text, that is no run fault
no_run : (fault : ReportFault) (run : RunFault) → EndsInText (Err fault) → ended fault ≢ ended (report_fault.Run run)
no_run fault run in_text is = grind arith

-- one that comes to its end doesn't end in a text
not_in_text : (u : Unit {0}) → ¬ EndsInText (Ok u)
not_in_text u in_text = grind arith

-- by its fault
pub in_text_by : (fault : ReportFault) → (fault ≡ report_fault.Write) ⊎ (fault ≡ report_fault.NoMemory)
    → EndsInText (Err fault)
in_text_by fault is = grind arith

-- ---- runs

module _ {S : Type 0} (contents : S → Option (List ℕ)) (failures : S → ℕ) {X : Type 0} (meaning : X → Meaning ℤ)
    (told : Readers) (s : Scenario) (first : EngineOf X ℤ) where
  -- what a report leaves, and the engine that made it
  abbrev pub Leaves : Result (Unit {0}) ReportFault → S → S → EngineOf X ℤ → Type 0
  Leaves came old new last =
      (left : LeavesReport contents failures told s came old new) × LeavesEngine meaning left first last

  -- where it ended in a text
  left_in_text : (fault : ReportFault) → EndsInText (Err fault) → (old new : S) (last : EngineOf X ℤ)
      (logs : List (Log ℤ)) (state : State i64_values) → HasRunFirst s logs state
      → AppendsPrefix (contents old) (contents new) (text_so_far s logs (readers_text s told state))
      → AppendsAtLeast (contents old) (contents new) (frames_text s 1 s.frames (take (length logs - 1) logs))
      → AppendsPrefix (contents old) (contents new) (frames_text s 1 s.frames logs)
      ⊎ ((length logs ≡ length s.frames)
      × AppendsAtLeast (contents old) (contents new) (frames_text s 1 s.frames logs))
      → (ended fault ≡ ended report_fault.Write → failures new ≡ one_failure_more (failures old))
      → (ended fault ≡ ended report_fault.NoMemory → failures new ≡ failures old)
      → EngineStands meaning first (state_of s) → EngineStands meaning last state
      → frame_number last ≡ min (length logs) (2 ^ 32 - 1) → Leaves (Err fault) old new last
  left_in_text fault in_text old new last logs state is_run prefix earlier ends write memory begun stands counted = (
    record {
      logs = logs;
      state = state;
      is_run = is_run;
      ok = tt;
      prefix = prefix;
      run = λ is. absurd (no_run fault run_fault.NoMemory in_text is);
      earlier = λ is. earlier;
      last = λ is. ends;
      not_spoiled = no_run fault run_fault.Spoiled in_text;
      no_bad_order = no_run fault run_fault.BadOrder in_text;
      write = write;
      quiet = λ other. elim in_text [
        | inl is ↦ absurd (other is)
        | inr is ↦ memory is
      ];
    },
    record {
      begun = begun;
      ok = tt;
      stopped = λ is. stands;
      counted = counted;
      run = λ is. absurd (no_run fault run_fault.NoMemory in_text is);
    },
  )

  -- nothing was run, and nothing put
  pub stopped_before_all : (fault : ReportFault) → fault ≡ report_fault.NoMemory → (sink : S)
      → EngineStands meaning first (state_of s) → frame_number first ≡ 0 → Leaves (Err fault) sink sink first
  stopped_before_all fault is sink begun none =
      let nothing = Appends-nil (contents sink) in
      left_in_text fault (inr (ap Err is)) sink sink first [] (state_of s) (refl, refl)
      ([], text_so_far s [] (readers_text s told (state_of s)), refl, nothing) ([], rw (zip-nil s.frames) nothing)
      (inl ([], frames_text s 1 s.frames [], refl, nothing)) (λ write. absurd cc) (λ memory. refl) begun begun none

  -- ---- after the first k frames

  module _ (k : ℕ) (old now : S) (e : EngineOf X ℤ)
      (far : ReportSoFar contents failures meaning s first k old now e) where
    -- ---- a frame

    -- the frame after the first k was run, and its text isn't put yet
    module _ (f : EngineOf X ℤ) (frame : Frame ℤ) (log : Log ℤ) (lt : k < length s.frames)
        (is : frame ≡ get_or s.frames k frame)
        (ran : (u : State i64_values) → EngineStands meaning e u → HasRunFrame meaning frame u log f)
        (counted : frame_number f ≡ min (frame_number e + 1) (2 ^ 32 - 1)) where
      abbrev one : HasRunFrame meaning frame far.state log f
      one = ran far.state far.stands

      abbrev logs_now : List (Log ℤ)
      logs_now = far.logs ++ log ∷ []

      many_now : length logs_now ≡ k + 1
      many_now = grind (arith, common_steps, far.as_many)

      abbrev left : State i64_values
      left = (frame_of frame far.state).state

      was_run : (logs_now ≡ (run (take (k + 1) s.frames) (state_of s)).logs)
          × (left ≡ (run (take (k + 1) s.frames) (state_of s)).state)
      was_run = rw (take_more s.frames k frame lt, ← is)
          (run_more (take k s.frames) frame (state_of s) far.logs log far.state far.is_run one.tells)

      counted_now : (left.frames ≡ k + 1) × (left.types ≡ length s.types)
      counted_now =
          let kept = frames_keep (turn_order (before_turns frame.posts far.state)) frame far.state in
          grind (arith, kept.counted, kept.after, far.frames, far.types)

      text_now : frames_text s 1 s.frames logs_now
          ≡ frames_text s 1 s.frames far.logs ++ frame_text s (k + 1) frame log
      text_now =
          let more = frames_text-append s 1 s.frames far.logs (log ∷ []) in
          let none = zip-nil {B = Log ℤ} (drop (k + 1) s.frames) in
          let whole = append-nil (frame_text s (k + 1) frame log) in
          grind (arith, more, far.as_many, is, drop_more s.frames k frame lt, none, whole)

      -- its text was put
      pub frame_put : (after : S) (g : EngineOf X ℤ)
          → ((u : State i64_values) → EngineStands meaning f u → EngineStands meaning g u)
          → frame_number g ≡ frame_number f → ¬ IsSpoiled g
          → Appends (contents now) (contents after) (frame_text s (k + 1) frame log) → failures after ≡ failures now
          → ReportSoFar contents failures meaning s first (k + 1) old after g
      frame_put after g stays same alive puts quiet = record {
        begun = far.begun;
        logs = logs_now;
        state = left;
        as_many = many_now;
        is_run = was_run;
        frames = counted_now.0;
        types = counted_now.1;
        printed = rw text_now (Appends-trans (contents old) (contents now) (contents after)
            (frames_text s 1 s.frames far.logs) (frame_text s (k + 1) frame log) far.printed puts);
        quiet = quiet ∙ far.quiet;
        stands = stays left one.stands;
        counted = omega (arith, same, counted, far.counted);
        alive = alive;
      }

      -- its text was put in part
      pub frame_stopped : (fault : ReportFault) → EndsInText (Err fault) → (after : S)
          → IsPut contents failures (frame_text s (k + 1) frame log) (Err fault) now after → Leaves (Err fault) old after f
      frame_stopped fault in_text after put =
          let texts = frames_text s 1 s.frames far.logs in
          let here = frame_text s (k + 1) frame log in
          let earlier : take (length logs_now - 1) logs_now ≡ far.logs =
          grind (arith, common_steps, take-append_seam far.logs (log ∷ [])) in
          left_in_text fault in_text old after f logs_now left (rw many_now was_run)
          (AppendsPrefix_after (contents old) (contents now) (contents after) texts here
          (rest_of s logs_now (readers_text s told left)) _
          (rw (← text_now) (text_so_far_parts s logs_now (readers_text s told left))) far.printed put.part) (
            put.part.0,
            rw earlier
                (Appends-trans (contents old) (contents now) (contents after) texts put.part.0 far.printed put.part.3),
          )
          (inl (AppendsPrefix_after (contents old) (contents now) (contents after) texts here [] _
          (text_now ∙ sym (append-nil (texts ++ here))) far.printed put.part))
          (λ is. rw (← far.quiet) (put.failed is)) (λ is. ap failures (put.none (λ write. cc)) ∙ far.quiet) far.begun one.stands
          (omega (arith, counted, far.counted, many_now))

    -- ---- no memory

    -- a frame or the accounts had none, so what was run and put so far is all that was; nor did they answer anything
    -- else, as the engine wasn't spoiled
    pub no_memory : {T : Type 0} (f : EngineOf X ℤ) (r : Result T RunFault) (fault : RunFault) → r ≡ Err fault
        → (r ≡ Err run_fault.Spoiled → IsSpoiled e) → ¬ (r ≡ Err run_fault.BadOrder)
        → (r ≡ Err run_fault.NoMemory → (frame_number f ≡ frame_number e)
        × ((IsSpoiled f × (k < length s.frames)) ⊎ (EngineStands meaning f far.state × (k ≡ length s.frames))))
        → Leaves (Err (report_fault.Run fault)) old now f
    no_memory f r run_fault.Spoiled is spoiled in_order out = absurd (far.alive (spoiled is))
    no_memory f r run_fault.BadOrder is spoiled in_order out = absurd (in_order is)
    no_memory f r run_fault.NoMemory is spoiled in_order out = (
      record {
        logs = far.logs;
        state = far.state;
        is_run = rw far.as_many far.is_run;
        ok = tt;
        prefix = (
          frames_text s 1 s.frames far.logs,
          _,
          text_so_far_parts s far.logs (readers_text s told far.state),
          far.printed,
        );
        run = λ is. far.printed;
        earlier = λ in_text. absurd (no_run _ run_fault.NoMemory in_text refl);
        last = λ in_text. absurd (no_run _ run_fault.NoMemory in_text refl);
        not_spoiled = λ is. cc;
        no_bad_order = λ is. cc;
        write = λ is. absurd cc;
        quiet = λ is. far.quiet;
      },
      record {
        begun = far.begun;
        ok = tt;
        stopped = λ in_text. absurd (no_run _ run_fault.NoMemory in_text refl);
        counted = omega (arith, (out is).0, far.counted, far.as_many);
        run = λ _. rw far.as_many (out is).1;
      },
    )

    -- ---- the readers

    module _ (after : S) (all : k ≡ length s.frames) where
      -- what came of the put of their lines
      pub readers_done : (came : Result (Unit {0}) ReportFault)
          → ((frames : List (Frame ℤ)) → IsCompleteRun frames (state_of s))
          → IsPut contents failures (readers_text s told far.state) came now after
          → IfErr came (λ fault. (fault ≡ report_fault.Write) ⊎ (fault ≡ report_fault.NoMemory))
          → Leaves came old after e
      -- they were put
      readers_done (Ok u) complete put faults =
          let whole = rw (all, take-length) at far.is_run in (
            record {
              logs = far.logs;
              state = far.state;
              is_run = rw far.as_many far.is_run;
              ok = record {
                complete = complete s.frames;
                printed = rw (← whole.0, ← whole.1) (Appends-trans (contents old) (contents now) (contents after)
                    (frames_text s 1 s.frames far.logs) (readers_text s told far.state) far.printed put.ok);
              };
              prefix = tt;
              run = λ is. absurd cc;
              earlier = λ in_text. absurd (not_in_text u in_text);
              last = λ in_text. absurd (not_in_text u in_text);
              not_spoiled = λ is. cc;
              no_bad_order = λ is. cc;
              write = λ is. absurd cc;
              quiet = λ is. put.quiet ∙ far.quiet;
            },
            record {
              begun = far.begun;
              ok = rw (← whole.1) far.stands;
              stopped = λ in_text. absurd (not_in_text u in_text);
              counted = tt;
              run = λ is. absurd cc;
            },
          )
      -- they were put in part
      readers_done (Err fault) complete put faults =
          let many = far.as_many in
          let texts = frames_text s 1 s.frames far.logs in
          let lines = readers_text s told far.state in
          let part : AppendsPrefix (contents now) (contents after) lines = put.part in
          let trans = Appends-trans (contents old) (contents now) (contents after) texts part.0 far.printed part.3 in
          let n = length far.logs - 1 in
          let begun = take n far.logs in
          let rest = frames_text s (1 + length begun) (drop (length begun) s.frames) (drop n far.logs) in
          let whole = rw take-append-drop at (frames_text-append s 1 s.frames begun (drop n far.logs)) in
          left_in_text fault (in_text_by fault faults) old after e far.logs far.state (rw many far.is_run)
          (AppendsPrefix_after (contents old) (contents now) (contents after) texts lines [] _
          (rw (eq-eqb (length far.logs) (length s.frames) (many ∙ all)) (sym (append-nil (texts ++ lines))))
          far.printed part)
          (rest ++ part.0, rw (← append_assoc, ← whole) trans)
          (inr (many ∙ all, (part.0, trans)))
          (λ is. rw (← far.quiet) (put.failed is)) (λ is. ap failures (put.none (λ write. cc)) ∙ far.quiet) far.begun far.stands
          (omega (arith, far.counted, many))
