use Rattle.std.proofs.Common.{append-nil, ◌<◌, None, ap, arith, ◌∙◌}
use Rattle.std.proofs.lemmas.List.{get_or_default}
use Rattle.msg_system.specs.Prelude.{IsAccessOf, Job}
use Rattle.msg_frames.specs.Prelude.{no_totals}
use Rattle.msg_exec.proofs.{SystemAfterTurn.totals_there, AccountsTell.one_more, accounts.add_accounts.Goals.in-Some+in_ok-push, accounts.add_accounts.Goals.in_default-of}
use Rattle.msg_exec.proofs.accounts.add_accounts.Goals as goal

pub loop-t-preserved : goal.loop-t-preserved
loop-t-preserved g c s stands =
    let core = c.args.core.now in
    let i = c.args.i in
    let t = c.loop-t.t in
    let lender = stands.lender in
    let lt : i < s.systems = omega (arith, c.requires.there, lender.systems) in
    let within : t < s.types = omega (arith, c.loop-t-test.true, c.types-t-end.ensures.types, lender.types) in
    let here = lender.members i lt in
    let read =
    get_or_default core.lender.systems.items i None c.index.result.now (omega (arith, lt, lender.systems)) in
    let job = rw (read, ← c.index.ensures, c.in-Some-Some.is-0) at here.guarded in
    let needs : IsAccessOf (s.members i).job.system.needs c.access-access.result =
    rw (← ap (λ (j : Job g.row.V.Denot). j.system.needs) job) (rw c.deref-2.ensures at c.access-access.ensures.needs) in
    let its = totals_there g.S.SystemOf.meaning lender
    (rw c.deref.ensures.value at c.in-Some-Some.ensures.lookup.1) lt in
    let is = rw c.deref-in-loop-t.ensures.value at (c.in-Some-Some-2.ensures'.lookup.3.1 no_totals)
    ∙ its.each t within in
    let told = (rw (c.in-Ok.ensures.1, c.in-Some-Some-2.ensures.value) at (c.of.ensures.told s stands)) within needs is in
    let all = one_more (g.A.AccountIn.is_there g.V.Value.values s i) (g.A.AccountIn.told g.V.Value.values s i) t _
    (c.loop-t.invariant s stands) in
    elim c.match-of.branch [
      | in-Some+in_ok-push w ↦ rw (w.accounts-is, w.in_ok-push.ensures.items) (rw (← told, w.in-Some.is) at all)
      | in_default-of w ↦ rw w.accounts-is (rw (← told, w.in_default-of.is, append-nil) at all)
    ]
