-- What a game is made of.
use Rattle.std.specs.Prelude.{ℕ, List}
use Rattle.msg_exec.specs.Prelude.{Added}

-- What was put into a game: systems with their places and rules, so many types, and the first values
-- of its resources.
pub record InGame (S V : Type 0) : Type 0 where
  pub added : Added S V
  pub types : ℕ
  pub values : List V
