use Rattle.msg_laws.proofs.{BeginsWoken.who_begins, WakeUps.no_wake_up, WakeUps.who_sleeps, WakeUps.woken_stays}
use Rattle.msg_laws.proofs.reader_laws.no_wake_up_is_lost.Goals as goal

pub returns : goal.returns
returns g c = record { begins = who_begins; sleeps = who_sleeps; woken = woken_stays; law = no_wake_up }
