use Rattle.std.proofs.Common.{bit_or, get_or, length, ℕ, ◌<◌, ◌≡◌, ◌≤◌}
use Rattle.msg_order.specs.declared.system_set.TheConstants.{WORDS}
use Rattle.msg_order.proofs.system_set.SystemSet.union_with.Given as goal

abbrev pub invariant-loop-i : goal.invariant-loop-i
invariant-loop-i l = record {
  len : length l.self.words ≡ WORDS;
  done : (q : ℕ) → q < l.i → get_or l.self.words q 0
      ≡ bit_or (get_or l.initial.self.words q 0) (get_or l.other.words q 0);
  rest : (q : ℕ) → l.i ≤ q → get_or l.self.words q 0 ≡ get_or l.initial.self.words q 0;
}
