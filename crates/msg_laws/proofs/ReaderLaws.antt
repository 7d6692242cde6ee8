-- What follows of readers from the laws of frames.
use Rattle.msg_frames.proofs.{ReaderOverRun.run_passes, ReaderOverRun.runs_are_complete, SystemsStay.joined_is}
use Rattle.msg_order.specs.Prelude.{has_joined}
use Rattle.msg_frames.specs.{Prelude.State, Prelude.first_state, Prelude.join_flags, Prelude.reader_place, Prelude.totals_from}
use Rattle.msg_buffer.proofs.{Standing.oldest_and_present, Unread.length-unread}
use Rattle.msg_laws.specs.Prelude.{AccountsBeginAtTheStart, BacklogsAddUp, ReadersTile}
use Rattle.msg_world.specs.Prelude.{Values}
use Rattle.std.proofs.Common.{IsTrue, arith, ◌≡◌}
use Rattle.std.proofs.lemmas.{Bool.cases_Bool, Bool.Decides.eqb_tells, Bool.Decides.nat_tests}

module _ {V : Type 0} {values : Values V} where
  pub readers_tile : ReadersTile values
  readers_tile frames s sound i t below has =
      let passes = run_passes i t frames s sound below has in
      record { tile = passes.tile; gives = passes.gives }

  pub backlogs_add_up : BacklogsAddUp values
  backlogs_add_up s i t sound below =
      let h = s.world.histories t in
      let place = reader_place s i t in
      omega (arith, length-unread h place, oldest_and_present h, sound.places i t below)

  -- from a first state a reader was found with new accounts
  pub accounts_begin : AccountsBeginAtTheStart values
  accounts_begin systems places rules types resources world frames i t sound below has =
      let s : State values = first_state systems places rules types resources world in
      let served = (runs_are_complete frames s sound).served i t below has in
      let new : IsTrue (has_joined (join_flags s) i) → (s.members i).totals t ≡ totals_from (reader_place s i t) = λ here.
      grind (arith, cases_Bool, eqb_tells, nat_tests, sound.joins i, here, joined_is s i) in
      grind (arith, cases_Bool, served.totals, new)
