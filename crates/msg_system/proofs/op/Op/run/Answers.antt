use Rattle.std.proofs.{Common.arith, Common.rules, Common.refl, lemmas.Result.IfOk-weaker}
use Rattle.msg_world.specs.{declared.part.Part.TheVariants.OfResource, declared.part.Part.TheVariants.OfType, declared.part.Part.TheVariants.Registry}
use Rattle.msg_system.specs.declared.op.Op.TheVariants.{Clear, Forward, Read, Sum}
use Rattle.msg_system.proofs.Runs.{covers_read, covers_written, place_at, ran_at}
use Rattle.msg_system.proofs.op.Op.run.Goals as goal

pub write-requires : goal.write-requires
write-requires g c = record { lent = covers_written _ _ (OfType c.in-Write.t) c.requires.covers (rw c.in-Write.is refl) }

pub batch-requires : goal.batch-requires
batch-requires g c = record { lent = covers_written _ _ (OfType c.in-Batch.t) c.requires.covers (rw c.in-Batch.is refl) }

pub set-requires : goal.set-requires
set-requires g c = record { lent = covers_written _ _ (OfResource c.in-Set.r) c.requires.covers (rw c.in-Set.is refl) }

pub add-requires : goal.add-requires
add-requires g c = record { lent = covers_written _ _ (OfResource c.in-Add.r) c.requires.covers (rw c.in-Add.is refl) }

pub signal-requires : goal.signal-requires
signal-requires g c = record { lent = covers_written _ _ Registry c.requires.covers (rw c.in-Signal.is refl) }

pub drain-requires-clause-lent : goal.drain-requires-clause-lent
drain-requires-clause-lent g c =
    rw c.empty_list-list-in-Drain.ensures.same (covers_written _ _ (OfType c.in-Drain.t) c.requires.covers (rw c.in-Drain.is refl))

pub len-requires : goal.len-requires
len-requires g c = record { lent = covers_read _ _ (OfType c.in-Len.t) c.requires.covers (rw c.in-Len.is refl) }

pub missed-requires : goal.missed-requires
missed-requires g c = record { lent = covers_read _ _ (OfType c.in-Missed.t) c.requires.covers (rw c.in-Missed.is refl) }

pub clear-requires : goal.clear-requires
clear-requires g c = record { lent = covers_read _ _ (OfType c.in-Clear.t) c.requires.covers (rw c.in-Clear.is refl) }

pub get-requires : goal.get-requires
get-requires g c = record { lent = covers_read _ _ (OfResource c.in-Get.r) c.requires.covers (rw c.in-Get.is refl) }

pub read-requires-clause-lent : goal.read-requires-clause-lent
read-requires-clause-lent g c =
    rw c.empty_list-list.ensures.same (covers_read _ _ (OfType c.in-Read.t) c.requires.covers (rw c.in-Read.is refl))

pub forward-requires-clause-read : goal.forward-requires-clause-read
forward-requires-clause-read g c =
    rw c.empty_list-list-in-Forward.ensures.same
    (covers_read _ _ (OfType c.in-Forward.t) c.requires.covers (rw c.in-Forward.is refl))

pub forward-requires-clause-written : goal.forward-requires-clause-written
forward-requires-clause-written g c =
    rw c.empty_list-list-in-Forward.ensures.same
    (covers_written _ _ (OfType c.in-Forward.u) c.requires.covers (rw c.in-Forward.is refl))

pub sum-requires-clause-read : goal.sum-requires-clause-read
sum-requires-clause-read g c =
    rw c.empty_list-list-in-Sum.ensures.same
    (covers_read _ _ (OfType c.in-Sum.t) c.requires.covers (rw c.in-Sum.is refl))

pub sum-requires-clause-written : goal.sum-requires-clause-written
sum-requires-clause-written g c =
    rw c.empty_list-list-in-Sum.ensures.same
    (covers_written _ _ (OfResource c.in-Sum.r) c.requires.covers (rw c.in-Sum.is refl))

pub returns-in-Read-clause-ran : goal.returns-in-Read-clause-ran
returns-in-Read-clause-ran g c =
    let same = c.empty_list-list.ensures.same in
    rw (c.in-Read.is, same) (IfOk-weaker c.read.result _ _ (λ reply ran. ran_at c.args.cursors.now _ _ _ (search rules)
    c.number.ensures.number c.number.ensures.within (Read _ _) c.args.writer _ c.args.lent.now _ _ (ran c.args.writer))
    (rw same at c.read.ensures.ran))

pub returns-in-Len-clause-ran : goal.returns-in-Len-clause-ran
returns-in-Len-clause-ran g c =
    rw c.in-Len.is (c.len.ensures.ran c.args.writer _ (place_at c.args.cursors.now _ _ _ (search rules)
    c.number-in-Len.ensures.number c.number-in-Len.ensures.within))

pub returns-in-Missed-clause-ran : goal.returns-in-Missed-clause-ran
returns-in-Missed-clause-ran g c =
    rw c.in-Missed.is (c.missed.ensures.ran c.args.writer _ (place_at c.args.cursors.now _ _ _ (search rules)
    c.number-in-Missed.ensures.number c.number-in-Missed.ensures.within))

pub returns-in-Clear-clause-ran : goal.returns-in-Clear-clause-ran
returns-in-Clear-clause-ran g c =
    rw c.in-Clear.is (ran_at c.args.cursors.now _ _ _ (search rules) c.number-in-Clear.ensures.number
    c.number-in-Clear.ensures.within (Clear _) c.args.writer _ c.args.lent.now _ _ (c.clear.ensures.ran c.args.writer))

pub returns-in-Forward-clause-ran : goal.returns-in-Forward-clause-ran
returns-in-Forward-clause-ran g c =
    let same = c.empty_list-list-in-Forward.ensures.same in
    rw c.in-Forward.is (IfOk-weaker c.forward.result _ _ (λ reply. ran_at c.args.cursors.now _ _ _ (search rules)
    c.number-in-Forward.ensures.number c.number-in-Forward.ensures.within (Forward _ _) c.args.writer _ c.args.lent.now
    _ _) (rw same at c.forward.ensures.ran))

pub returns-in-Sum-clause-ran : goal.returns-in-Sum-clause-ran
returns-in-Sum-clause-ran g c =
    let same = c.empty_list-list-in-Sum.ensures.same in
    rw c.in-Sum.is (IfOk-weaker c.sum.result _ _ (λ reply ran. ran_at c.args.cursors.now _ _ _ (search rules)
    c.number-in-Sum.ensures.number c.number-in-Sum.ensures.within (Sum _ _) c.args.writer _ c.args.lent.now _ _
    (ran c.args.writer)) (rw same at c.sum.ensures.ran))

pub returns-in-Batch-clause-ran : goal.returns-in-Batch-clause-ran
returns-in-Batch-clause-ran g c = rw c.in-Batch.is (search rules)

pub returns-in-Signal-clause-ran : goal.returns-in-Signal-clause-ran
returns-in-Signal-clause-ran g c = rw c.in-Signal.is (λ s stand. grind (arith, c.signal.ensures.ran s stand))
