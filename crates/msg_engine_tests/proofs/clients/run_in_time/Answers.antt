use Rattle.std.proofs.Common.{[], ◌∷◌}
use Rattle.msg_engine_tests.proofs.clients.run_in_time.Goals as goal

pub returns : goal.returns
returns g c = record {
  at_once = λ s stands i j t n m below path reads wrote.
      let f = c.args.frame.now in
      let sound = c.engines_stand.ensures.sound _ s stands in
      let taken = c.what_is_written_is_read_in_time.ensures.at_once f s i j t sound below path reads n m wrote in
      let told = c.each_message_meets_one_fate.ensures.logs j t (f ∷ []) s in
      let ran = c.in_ok-run_frame.ensures.ran s stands in
      rw (ran.tells, told) taken.counted;
}
