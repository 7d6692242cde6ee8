use Rattle.std.proofs.Common.{◌≡◌, ℕ, ◌<◌, List, rules, sym, ◌∙◌, IsTrue, ℤ}
use Rattle.msg_order.specs.Prelude.{has_joined}
use Rattle.msg_frames.specs.{declared.frame.Frame.Frame, declared.log.Log.Log}
use Rattle.msg_frames.specs.Prelude.{IsCompleteRun, State, join_flags, run}
use Rattle.msg_laws.specs.Prelude.{EachMeetsOneFate, LogsTellEntries, Meets, given, log_entries}
use Rattle.msg_world.specs.Prelude.{i64_values}
use Rattle.msg_engine_tests.proofs.clients.run_once.Goals as goal

once : EachMeetsOneFate i64_values → LogsTellEntries i64_values → (frames : List (Frame ℤ)) (s : State i64_values) (logs : List (Log ℤ))
    → logs ≡ (run frames s).logs → IsCompleteRun frames s
    → (i t n j k : ℕ) → t < s.types → IsTrue (has_joined (join_flags (run frames s).state) i)
    → Meets (log_entries i t (s.members i).job.system logs) n j given
    → Meets (log_entries i t (s.members i).job.system logs) n k given → j ≡ k
once fate tell frames s logs same complete i t n j k below has first second =
    let told = fate i t frames s (complete.served i t below has) in
    let one = rw (same, tell i t frames s) at first in
    let other = rw (same, tell i t frames s) at second in
    let within = told.no_other n j given one in
    let fate = told.each n within.0 within.1 in
    (fate.only j given one).0 ∙ sym (fate.only k given other).0

pub returns : goal.returns
returns g c = record {
  never_twice = λ s stands.
      let ran = c.in_ok-run_frames.ensures.ran s stands in
      let laws = c.each_message_meets_one_fate.ensures in (
        (run c.args.frames.now s).state,
        ran.stands,
        once laws.fate laws.logs c.args.frames.now s c.run_frames.new.out.items (search rules) ran.complete,
      );
}
