use Rattle.std.proofs.Common.{codes}
use Rattle.msg_command.specs.CommandLine.{bare_app}
use Rattle.msg_command.specs.Prelude.{buffer_app, file_app, plan_app, run_app, running_app, serve_app}
use Rattle.msg_command.proofs.words.command.command.Goals as goal

-- each call adds one subcommand to what the calls before made
pub returns-clause-app : goal.returns-clause-app
returns-clause-app c =
    let first = c.with_subcommand-command.ensures.app bare_app buffer_app c.bare_command.ensures.app c.buffer_command.ensures.app in
    let running = c.with_subcommand-command-2.ensures.app _ run_app first c.run_command.ensures.app in
    let checking = c.with_subcommand-command-3.ensures.app running_app (file_app (codes "check")) running c.file_command-check.ensures.app in
    let planning = c.with_subcommand-command-4.ensures.app _ plan_app checking c.plan_command.ensures.app in
    c.with_subcommand.ensures.app _ serve_app planning c.serve_command.ensures.app
