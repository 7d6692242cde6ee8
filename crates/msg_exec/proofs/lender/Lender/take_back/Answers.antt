use Rattle.std.proofs.Common.{None, option_map, refl, sym, ap, ◌∙◌}
use Rattle.std.proofs.lemmas.List.{get_or-set_other, get_or-set_same, length-set}
use Rattle.msg_exec.specs.declared.job.JobContents.{JobContents}
use Rattle.msg_exec.proofs.lender.Lender.take_back.Goals as goal

pub returns-clause-home : goal.returns-clause-home
returns-clause-home g c =
    let contents = c.deref_mut.ensures.value ∙ sym c.deref.ensures in
    let taken = c.replace-taken.ensures.value ∙ ap (λ (l : JobContents g.row.V.Denot). l.taken) contents in
    let came = c.replace-outcome.ensures.value ∙ ap (λ (l : JobContents g.row.V.Denot). l.outcome)
    c.deref_mut-2.ensures.value ∙ ap (λ (l : JobContents g.row.V.Denot). l.outcome) contents in
    let systems = c.args.self.now.systems.items in
    let i = c.deref.result.now.number in
    rw (← c.done.view_is, ← c.deref.ensures) (record {
      as_many = length-set systems i _;
      system = rw (get_or-set_same systems i _ None (rw (← c.done.view_is, ← c.deref.ensures) at c.requires.systems))
          refl;
      others = λ k other. ap (option_map _) (get_or-set_other systems i k _ None other);
      accesses = refl;
      taken_back = rw taken at c.take_back.ensures.home;
      totals = rw (came, c.deref-2.ensures) at c.enter_turn.ensures.entered;
    })
