use Rattle.std.proofs.Common.{refl}
use Rattle.msg_system.specs.Prelude.{turn}
use Rattle.msg_frames.specs.Prelude.{parts, settled_order, turn_order}
use Rattle.msg_frames.specs.WorkedRuns.{AsksBothEachTime, JoinsBeforePosts}

pub asks_both : AsksBothEachTime
unfolding turn turn_order settled_order parts
asks_both = refl

pub joins_before : JoinsBeforePosts
unfolding turn turn_order settled_order parts
joins_before = refl
