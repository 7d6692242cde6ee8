use Rattle.std.proofs.Common.{Bool, arith, get_or, length, refl, ℕ, ◌≡◌}
use Rattle.std.proofs.lemmas.{Bool.false_from_ne_true, Bool.false≢true, List.get_or_read}
use Rattle.msg_order.specs.{inner.Paths.set_at, inner.SystemSet.has, inner.SystemSet.no_set}
use Rattle.msg_order.proofs.SystemSets.{meets-found, meets-true}
use Rattle.msg_order.proofs.PlanViews.{seen_edges, seen_joined, settled_lawful}
use Rattle.msg_order.proofs.AcceptedOrders.{goes_on, taken_all, taken_next}
use Rattle.msg_order.proofs.TurnOrders.{place_of}
use Rattle.msg_order.proofs.plan.Plan.accepts.Goals.{then-system-len-via-then-system-len, then-system-len-via-else-system-len+then-not-contains, then-system-len-via-else-system-len+else-not-contains+then-meets}
use Rattle.msg_order.proofs.plan.Plan.accepts.Goals as goal

pub loop-system-init : goal.loop-system-init
loop-system-init _g c = let joined = seen_joined _ _ _ _ c.self.view_is c.self.invariant in grind (arith, joined)

pub loop-system-preserved : goal.loop-system-preserved
loop-system-preserved _g c =
    let before = c.self.inside.before.items in
    let s : ℕ = get_or c.args.order.now c.loop-system.system-index 0 in
    let at : c.index.result.now ≡ set_at before s = get_or_read before s _ (omega arith) c.index.ensures no_set in
    let edges = seen_edges _ _ _ _ c.self.view_is c.self.invariant in
    let joined = seen_joined _ _ _ _ c.self.view_is c.self.invariant in
    let kept = c.self.invariant in
    let left = c.loop-system.invariant.is_left in
    let met = meets-found (set_at before s) c.loop-system.left in
    taken_next _ _ _ _ _ _ s refl (grind arith)
    (λ i on e. grind (arith, edges i s, joined i, kept.few, kept.within i, left i, met i))
    c.remove.ensures c.loop-system.invariant

pub returns-then-system-len-clause-keeps_what_precedes : goal.returns-then-system-len-clause-keeps_what_precedes
returns-then-system-len-clause-keeps_what_precedes _g c =
    let before = c.self.inside.before.items in
    let s : ℕ = get_or c.args.order.now c.loop-system.system-index 0 in
    let edges = seen_edges _ _ _ _ c.self.view_is c.self.invariant in
    let joined = seen_joined _ _ _ _ c.self.view_is c.self.invariant s in
    let within = c.self.invariant.within s in
    let is_left = c.loop-system.invariant.is_left s in (
      λ t. absurd (false≢true t),
      λ w.
          let on = goes_on _ _ _ _ _ c.loop-system-test.true c.loop-system.invariant w in
          absurd (elim c.then-system-len.branch [
            | then-system-len-via-then-system-len v ↦ grind (arith, on, joined, within, is_left)
            | then-system-len-via-else-system-len+then-not-contains v ↦ grind (arith, on)
            | then-system-len-via-else-system-len+else-not-contains+then-meets v ↦
                let at = get_or_read before s _ (omega arith) v.index.ensures no_set in
                let f = meets-true (set_at before s) c.loop-system.left (grind (arith, at)) in
                grind (arith, on.1 f.0, f.1, edges f.0 s)
          ]),
    )

pub returns-then-system-len-clause-lawful : goal.returns-then-system-len-clause-lawful
returns-then-system-len-clause-lawful _g c rules joined conflict is =
    settled_lawful rules joined conflict _ _ is (returns-then-system-len-clause-keeps_what_precedes _g c)

pub returns-clause-keeps_what_precedes : goal.returns-clause-keeps_what_precedes
returns-clause-keeps_what_precedes _g c =
    let edges = seen_edges _ _ _ _ c.self.view_is c.self.invariant in
    let joined = seen_joined _ _ _ _ c.self.view_is c.self.invariant in
    let left : ℕ → Bool = has c.loop-system.left in
    let all : c.loop-system.system-index ≡ length c.args.order.now = omega arith in
    let taken = rw all at c.loop-system.invariant in (
      λ t. taken_all _ _ left _
          (λ i j e. grind (arith, edges i j, joined i, joined j, c.self.invariant.among i j))
          taken (c.is_empty.ensures.0 t),
      λ w. c.is_empty.ensures.1 (λ i. false_from_ne_true (left i) (λ on.
          grind (arith, on, taken.is_left i, w.of_joined i, place_of c.args.order.now i))),
    )

pub returns-clause-lawful : goal.returns-clause-lawful
returns-clause-lawful _g c rules joined conflict is =
    settled_lawful rules joined conflict _ _ is (returns-clause-keeps_what_precedes _g c)
