use Rattle.std.proofs.Common.{ℕ, ◌<◌, get_or, length}
use Rattle.msg_exec.proofs.engine.EngineOf.fits.Given as goal

abbrev pub invariant-loop-post : goal.invariant-loop-post
invariant-loop-post g l = (k : ℕ) (d : ℕ × g.row.V.Denot) → k < l.post-index → (get_or l.post-items k d).0 < length l.world.types
