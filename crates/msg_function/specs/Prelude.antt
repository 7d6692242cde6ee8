-- Hands on the definitions cited elsewhere.
pub use Rattle.msg_function.specs.Functions.{Answer, Given, TellsOfNoCut, nothing, put, put_all}
