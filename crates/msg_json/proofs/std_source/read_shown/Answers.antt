use Rattle.std.proofs.Common.{◌≡◌, ◌≢◌, ◌-◌, ◌≤◌, ◌++◌, ◌∙◌, ℕ, List, take, length, arith}
use Rattle.std.proofs.lemmas.List.{length-take-le, take-append-le, take-take}
use Rattle.std.proofs.lemmas.List.Elements.{All-take}
use Rattle.std.proofs.BufReadLemmas.{Consumes_shown}
use Rattle.msg_json.proofs.std_source.read_shown.Goals as goal

-- what was copied, up to some byte of it
copied : (k n : ℕ) (shown rest : List ℕ) → k ≤ n → n ≤ length shown → take k (take n shown ++ rest) ≡ take k shown
copied k n shown rest le within =
    take-append-le k (take n shown) rest (omega (arith, length-take-le n shown within)) ∙ take-take k n shown le

pub returns-clause-bytes : goal.returns-clause-bytes
returns-clause-bytes g c =
    let shown = c.in-Ok.shown.now in
    let n = c.min-n.result in
    let within : n ≤ length shown = omega (arith, c.min-n.ensures, c.through_feed.ensures.within) in
    let filled = rw c.in-Ok.is at c.fill_buf.follows.holds-at-none in
    let moved = Consumes_shown _ _ _ _ shown n within c.in-Ok.ensures.front c.in-Ok.ensures.end filled.0 filled.1 c.consume.ensures.bytes in
    rw (c.copy_from_slice.ensures.after, copied n n shown _ (omega arith) within) moved.0

pub returns-clause-one_line : goal.returns-clause-one_line
returns-clause-one_line g c =
    let shown = c.in-Ok.shown.now in
    let n = c.min-n.result in
    let m = c.through_feed.result in
    let within : n ≤ length shown = omega (arith, c.min-n.ensures, c.through_feed.ensures.within) in
    let less : n - 1 ≤ m - 1 = omega (arith, c.min-n.ensures) in
    rw (c.copy_from_slice.ensures.after, copied (n - 1) n shown _ (omega arith) within, ← take-take (n - 1) (m - 1) shown less)
    (All-take (λ byte. byte ≢ 10) (n - 1) (take (m - 1) shown) c.through_feed.ensures.one_line)
