use Rattle.std.proofs.Common.{rules, ◌≡◌, max}
use Rattle.msg_buffer.proofs.Unread.{unread_stands}
use Rattle.msg_buffer.proofs.cursor.MessageCursor.read.Goals as goal

pub returns-clause-unread : goal.returns-clause-unread
returns-clause-unread g c h s =
    let k = c.args.messages.now in let p = c.args.self.now in
    let at : c.max-self-inside.result ≡ max p k.oldest = search rules in
    rw at (unread_stands k h p s)
