use Rattle.msg_laws.proofs.Latency.{all_next, later_at_once, posts_at_once}
use Rattle.msg_laws.proofs.reader_laws.what_is_written_is_read_in_time.Goals as goal

pub returns : goal.returns
returns g c = record { at_once = later_at_once; next = all_next; posts = posts_at_once }
