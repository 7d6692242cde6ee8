-- Frames after those of the file: as lines, or in the file.
use Rattle.std.proofs.Common.{◌≡◌, ℕ, ℤ, List, [], ◌∷◌, ◌++◌, map, refl, ap, ◌∙◌, append_assoc}
use Rattle.std.proofs.lemmas.List.{map-append}
use Rattle.msg_frames.specs.Prelude.{State, accounts_of, frame, writer_accounts_of}
use Rattle.msg_frames.specs.{declared.account.Account.Account, declared.log.Log.Log, declared.writer_account.WriterAccount.WriterAccount}
use Rattle.msg_frames.specs.declared.frame.Frame.{Frame}
use Rattle.msg_log_json.specs.Prelude.{frame_line, happened_json, numbered, of_resource, of_type, readers_line, use_json}
use Rattle.msg_reading.specs.Prelude.{state_of}
use Rattle.msg_reading.specs.declared.scenario.Scenario.{Scenario}
use Rattle.msg_serve.specs.Prelude.{Request, ServesAsRunsTell, after_request, answer_of, texts_of, number_of, own_requests, with_frames}
use Rattle.msg_serve.specs.Requests.{readers, refused, run}
use Rattle.msg_serve.proofs.AnswersInTurn.{after_frames, answers-append}
use Rattle.msg_world.specs.Prelude.{WorldState, i64_values}

module _ (s : Scenario) (more : List (Frame ℤ)) where
  -- a line doesn't depend on the frames of the file
  same_frame_line : (number : ℕ) (f : Frame ℤ) (log : Log ℤ) (w : WorldState i64_values)
      → frame_line (with_frames s more) number f log w ≡ frame_line s number f log w
  unfolding happened_json numbered of_resource of_type
  same_frame_line number f log w = refl

  same_readers_line : (accounts : List Account) (writers : List WriterAccount) (now : State i64_values)
      → readers_line (with_frames s more) accounts writers now ≡ readers_line s accounts writers now
  unfolding numbered use_json
  same_readers_line accounts writers now = refl

  -- nor does an answer
  same_answer : (request : Request) (now : State i64_values)
      → answer_of (with_frames s more) request now ≡ answer_of s request now
  same_answer (run f) now =
      let done = frame f now in same_frame_line (number_of done.state) f done.log done.state.world
  same_answer readers now = same_readers_line (accounts_of now) (writer_accounts_of now) now
  same_answer (refused text) now = refl

  same_answers : (requests : List Request) (now : State i64_values)
      → texts_of (with_frames s more) requests now ≡ texts_of s requests now
  same_answers [] now = refl
  same_answers (request ∷ requests) now =
      rw (same_answer request now, same_answers requests (after_request request now)) refl

pub serves_as_runs_tell : ServesAsRunsTell
serves_as_runs_tell s more =
    let own = map run s.frames in
    let later = map run more ++ readers ∷ [] in
    let parts : own_requests (with_frames s more) ≡ own ++ later =
    ap (λ l. l ++ readers ∷ []) (map-append run s.frames more) ∙ append_assoc own (map run more) (readers ∷ []) in
    rw (
      same_answers s more (own_requests (with_frames s more)) (state_of s),
      parts,
      answers-append s own later (state_of s),
      after_frames s.frames (state_of s),
    ) refl
