use Rattle.std.proofs.Common.{ap, arith, inl, inr, is_some, sym, ◌∙◌}
use Rattle.std.proofs.lemmas.{Bool.false≢true, Result.IfErr-weaker}
use Rattle.msg_command.specs.Prelude.{asked_by, texts_of}
use Rattle.msg_command.proofs.{ClapErrors.told_on, ClapTakesAsk.takes_asks}
use Rattle.msg_command.proofs.words.parse.parse_words.Goals as goal

-- words that clap takes ask for something, or for what there can't be, so that else only want of memory is left
pub returns-clause-refused : goal.returns-clause-refused
returns-clause-refused c =
    IfErr-weaker c.action_of-action.result _ _
    (λ fault refused taken. elim refused [
      | inl wants ↦ inl wants
      | inr bad ↦ elim (takes_asks (texts_of c.args.words.now) taken) [
        | inl there ↦
            let out = sym (ap asked_by c.in_ok-matches.ensures.rows) ∙ bad.1 in
            absurd (false≢true (sym (ap (λ o. is_some o) out) ∙ there))
        | inr nothing ↦ inr (bad.0, nothing)
      ]
    ])
    c.action_of-action.ensures.refused

-- and clap found nothing in them
pub returns-clause-found : goal.returns-clause-found
returns-clause-found c =
    IfErr-weaker c.action_of-action.result _ _ (λ fault refused. grind (arith, refused, c.in_ok-matches.ensures.accepted))
    c.action_of-action.ensures.refused

-- if clap refuses the words, and takes them, memory was refused
pub returns-in_err-matches-clause-refused : goal.returns-in_err-matches-clause-refused
returns-in_err-matches-clause-refused c =
    told_on c.from_residual.result c.in_err-matches.field-0.0 _ _ c.from_residual.ensures.1 c.in_err-matches.ensures.refused
