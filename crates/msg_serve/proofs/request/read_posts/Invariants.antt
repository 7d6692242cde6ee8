use Rattle.msg_reading.specs.ScenarioFormat.{post_at}
use Rattle.msg_reading.proofs.ListsInTurn.{ElementsLeft}
use Rattle.msg_serve.specs.Requests.{names_of}
use Rattle.msg_serve.proofs.request.read_posts.Given as goal

abbrev pub invariant-loop-n : goal.invariant-loop-n
invariant-loop-n l = ElementsLeft post_at (names_of l.scenario) l.items l.n l.posts.items (names_of l.scenario)
