use Rattle.std.proofs.Common.{codes}
use Rattle.std.proofs.lemmas.Result.{on_ok_weaker}
use Rattle.msg_log_json.proofs.Kept.{accounts_told}
use Rattle.msg_log_json.proofs.Lists.{extended, five_pieces}
use Rattle.msg_log_json.proofs.accounts.add_readers_line.Goals as goal

pub returns : goal.returns
returns c = record {
  appends = on_ok_weaker c.extend_from_slice-3.result
      (λ made w stands.
      let told = accounts_told c.args.scenario.now c.args.world.now w c.requires.whole stands c.args.accounts.now c.requires.types in
      five_pieces c.args.text.now.items (codes "{\"readers\":[") _ (codes "],\"writers\":[") _ (codes "]}\n") _ _ _ _ _
      c.in_ok-extend_from_slice.ensures.items (rw told at c.in_ok-add_accounts.ensures.appends) c.in_ok-extend_from_slice-2.ensures.items
      c.in_ok-add_writers.ensures.appends made)
      (extended c.extend_from_slice-3.result _ c.add_writers.new.text.items (codes "]}\n") c.extend_from_slice-3.ensures.items);
}
