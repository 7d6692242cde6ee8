use Rattle.msg_json.specs.declared.location.Key.TheVariants as key
use Rattle.msg_json.specs.declared.location.PathStep.TheVariants as step
use Rattle.msg_reading.specs.Prelude.{resources_of}
use Rattle.msg_reading.proofs.ListsInTurn.{ReadsWith_at_step}
use Rattle.msg_reading.proofs.read.file.read_resources.Goals as goal

pub returns : goal.returns
unfolding resources_of
returns c =
    let read = rw (c.get-list.ensures, c.text.ensures.text) at c.read_list_if_there-resources.ensures.reads in
    record { reads = rw c.at_step.ensures.at_step (ReadsWith_at_step (step.Section key.Resources) _ _ _ read) }
