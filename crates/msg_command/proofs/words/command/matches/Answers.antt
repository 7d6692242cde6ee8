use Rattle.std.proofs.Common.{◌∙◌, ap}
use Rattle.clap.specs.Words.{App, takes}
use Rattle.msg_command.specs.Prelude.{texts_of}
use Rattle.msg_command.proofs.ClapErrors.{accepted_in, found_in, found_as}
use Rattle.msg_command.proofs.words.command.matches.Goals as goal

-- if clap takes the words, its only error is want of memory
pub returns-in-Err-clause-refused : goal.returns-in-Err-clause-refused
returns-in-Err-clause-refused c = λ taken.
    let words = texts_of c.args.words.now in
    c.fault.ensures.memory (c.in-Err.ensures.passes (ap (λ (a : App). takes a words) c.in-Ok.ensures.app ∙ taken))

pub returns-in-Err-clause-found : goal.returns-in-Err-clause-found
returns-in-Err-clause-found c =
    found_as _ _ c.fault.result c.fault.ensures.memory c.fault.ensures.help c.fault.ensures.bad
    (found_in _ (texts_of c.args.words.now) c.in-Err.error c.in-Ok.ensures.app c.in-Err.ensures.kinds)

-- words that clap takes have no fault
pub returns-in-Ok-try_get_matches_from-clause-accepted : goal.returns-in-Ok-try_get_matches_from-clause-accepted
returns-in-Ok-try_get_matches_from-clause-accepted c =
    accepted_in _ (texts_of c.args.words.now) c.in-Ok.ensures.app c.in-Ok-try_get_matches_from.ensures.kinds
