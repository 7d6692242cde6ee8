-- When a buffer stands for a history.
use Rattle.std.specs.Prelude.{◌≡◌}
use Rattle.msg_buffer.specs.{History.History, History.IsSound, History.count, History.present, History.current, History.oldest, Kept.Kept, Kept.kept_count, Kept.kept_instances}

-- A buffer stands for a history: its halves hold the present messages, the newer half the current
-- ones. Messages that aren't present may be any, since nothing depends on them.
pub record StandsFor {M : Type 0} (k : Kept M) (h : History M) : Type 0 where
  pub sound : IsSound h
  pub limit : k.limit ≡ h.limit
  pub count : kept_count k ≡ count h
  pub oldest : k.oldest ≡ oldest h
  pub present : kept_instances k ≡ present h
  pub current : k.newer ≡ current h
