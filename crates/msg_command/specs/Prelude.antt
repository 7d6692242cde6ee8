-- Hands on the definitions cited elsewhere. The declared types serve this crate's proofs alone.
pub use Rattle.msg_command.specs.Asked.{AsksForNone, HasNoNumber, IsInRange, IsShown, IsWordFaultOf, asked, asked_by, buffer, buffer_asked, buffer_explained, check, if_both, is_asked, is_numeral, number_asked, number_in, plan, request_of, serve}
pub use Rattle.msg_command.specs.CommandLine.{buffer_app, file_app, file_rule, flag_rule, msgrun_app, number_rule, plan_app, run_app, running_app, serve_app, texts_of}
pub use Rattle.msg_command.specs.Faults.{line_of, lines_of, refusal_line, status_of}
pub use Rattle.msg_command.specs.Inputs.{GaveAtMost, GaveMoreThan, IsAllOf}
pub use Rattle.msg_command.specs.declared.input.TheConstants.{MAX_BYTES}
pub use Rattle.msg_command.specs.declared.words.WordFault.{WordFault}
