use Rattle.std.proofs.Common.{◌≡◌, ◌<◌, [], add-one, arith, length, refl, rules, sym, ◌∙◌}
use Rattle.std.proofs.lemmas.List.{length_push}
use Rattle.msg_system.specs.{Prelude.cursor_places, Prelude.needs_of, Prelude.next_done, declared.limits.TheConstants.MAX_OPS}
use Rattle.msg_system.proofs.{Deciding.answered_more, Deciding.appended, Deciding.covers_kept, Deciding.is_done, Deciding.none_done, Deciding.turn_more, Deciding.turn_over, Runs.same_loan_trans, Turns.kept}
use Rattle.msg_system.proofs.behavior_system.BehaviorSystem.run_ops.Goals as goal

pub turn-init : goal.turn-init
turn-init g c =
    let none = c.clear.ensures.items in
    record {
      so_far = λ s stands. rw none (record { same_places = refl; stands = stands; same_replies = search rules });
      long = search rules;
      answered = ([], search rules, rw none refl, rw none refl);
      few = rw none (omega arith);
      same = search rules;
    }

pub answer-requires-clause-covers : goal.answer-requires-clause-covers
answer-requires-clause-covers g c =
    covers_kept _ _ _ _ (kept (needs_of c.args.self.now.access) c.in-Some.op (search rules)) c.turn.invariant.same c.requires.covers

pub turn-preserved : goal.turn-preserved
turn-preserved g c =
    let rule = g.B.Behavior.next_op (g.B.Behavior.memory c.args.self.now.behavior) in
    let inv = c.turn.invariant in let are = inv.answered in
    let asked = rw (c.since.ensures.rest, c.as_slice.ensures.value, inv.long, appended _ _ _ _ are) at c.in_ok-left.ensures.next in
    let next = next_done (needs_of c.args.self.now.access) rule in
    let few : length are.0 < MAX_OPS = omega (arith, are.3, c.if-len-lt-MAX_OPS.true) in
    let is = is_done (needs_of c.args.self.now.access) rule are.0 c.in-Some.op (sym c.in-Some.is ∙ asked) few (search rules) in
    let did = c.in_ok-answer-in-Some.ensures.answered in
    let same = c.in_ok-reserve-in-Some.ensures.items in
    let longer = length_push c.turn.ops.items c.in-Some.op in
    record {
      so_far = λ s stands. rw (did.appended, same, c.in_ok-push-in-Some.ensures.items, longer, add-one)
          (turn_more next c.args.self.now.writer _ s (length c.turn.ops.items) _ _ _ _ are.0 are.1 (inv.so_far s stands) c.in-Some.op _ _ _ is did.ran);
      long = inv.long;
      answered = rw (did.appended, same, c.in_ok-push-in-Some.ensures.items) (answered_more _ _ _ _ c.in-Some.op _ are is);
      few = rw (c.in_ok-push-in-Some.ensures.items, longer) (omega (arith, few, are.3));
      same = same_loan_trans _ _ _ inv.same c.in_ok-answer-in-Some.ensures.same;
    }

pub returns-in_default-clause-over : goal.returns-in_default-clause-over
returns-in_default-clause-over g c =
    let rule = g.B.Behavior.next_op (g.B.Behavior.memory c.args.self.now.behavior) in
    let inv = c.turn.invariant in let are = inv.answered in
    let asked = rw (c.since.ensures.rest, c.as_slice.ensures.value, inv.long, appended _ _ _ _ are) at c.in_ok-left.ensures.next in
    let left : c.in_default-1.left ≡ rule are.0 = grind (arith, asked, c.in_default-1.branch) in
    record {
      answered = are;
      left_over = left;
      none_done = none_done (needs_of c.args.self.now.access) rule are.0 _ left (λ op is few. grind (arith, are.3, c.in_default-1.branch));
    }

pub returns-in_default-clause-ran : goal.returns-in_default-clause-ran
returns-in_default-clause-ran g c s stands =
    let now = c.args.self.now in let inv = c.turn.invariant in let over = returns-in_default-clause-over g c in
    let next = next_done (needs_of now.access) (g.B.Behavior.next_op (g.B.Behavior.memory now.behavior)) in
    let done = turn_over next now.writer (cursor_places now.cursors) s (length c.turn.ops.items) _ _ _ _ over.answered.0
    over.answered.1 (inv.so_far s stands) inv.few over.none_done in
    grind (arith, done, c.in_default-1.branch)
