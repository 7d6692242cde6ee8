use Rattle.std.proofs.Common.{◌∙◌}
use Rattle.msg_serve.proofs.server.tell_readers.Goals as goal

pub returns-clause-answers : goal.returns-clause-answers
returns-clause-answers g c now stands =
    let accounts = c.as_slice.ensures.value ∙ c.in-Ok.ensures.accounts now stands in
    let writers = c.as_slice-2.ensures.value ∙ c.in-Ok-writer_accounts.ensures.accounts now stands in
    record {
      text = rw (c.clear.ensures.items, accounts, writers) at
          (c.in_ok-add_readers_line.ensures.appends now (c.in-Some.ensures.meaning now stands));
      stands = stands;
    }
