use Rattle.std.proofs.Common.{◌≡◌, ◌+◌, suc, get_or, map, sym, ap, ◌∙◌, arith}
use lib.ListN.{get_or-map}
use Rattle.std.proofs.lemmas.List.{length-map, map-set}
use Rattle.msg_exec.proofs.BuilderBuilds.{numbered_next}
use Rattle.msg_exec.proofs.builder.number_all.Goals as goal

pub loop-i-preserved : goal.loop-i-preserved
loop-i-preserved g c =
    let m = g.S.SystemOf.meaning in
    let i = c.loop-i.i in
    let ys = c.loop-i.systems.items in
    let x = c.index_mut.result.now in
    let old = c.args.systems.items in
    let was : m x ≡ get_or (map m ys) i (m x) = ap m c.index_mut.ensures.value
    ∙ sym (get_or-map m ys i x) in
    let next = numbered_next 0 i (map m old) (m x) (omega (arith, length-map old m)) in
    let number : 0 + i ≡ i = omega arith in
    let more : i + 1 ≡ suc i = omega arith in
    rw (map-set, c.set_number.ensures.numbered, was, c.loop-i.invariant, more) (rw number at next)
