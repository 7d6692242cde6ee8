use Rattle.std.proofs.Common.{get_or, length, not, ℕ, ◌&&◌, ◌<◌, ◌≡◌, ◌≤◌}
use Rattle.msg_world.specs.Prelude.{has_bit}
use Rattle.msg_order.specs.declared.system_set.TheConstants.{WORDS}
use Rattle.msg_order.proofs.system_set.SystemSet.remove_all.Given as goal

abbrev pub invariant-loop-i : goal.invariant-loop-i
invariant-loop-i l = record {
  len : length l.self.words ≡ WORDS;
  done : (q k : ℕ) → q < l.i → k < 64 → has_bit (get_or l.self.words q 0) k
      ≡ (has_bit (get_or l.initial.self.words q 0) k && not (has_bit (get_or l.other.words q 0) k));
  rest : (q : ℕ) → l.i ≤ q → get_or l.self.words q 0 ≡ get_or l.initial.self.words q 0;
}
