use Rattle.std.proofs.Common.{rules, ap, sym, ◌∙◌, arith, length, ◌+◌, get_or, ℕ, map}
use Rattle.std.proofs.lemmas.List.{length-replicate}
use Rattle.msg_board.specs.Prelude.{Job}
use Rattle.msg_board.proofs.{TableLists.zero_at, Steps.starts}
use Rattle.msg_board.proofs.board.Board.new.Goals as goal

pub new-requires : goal.new-requires
new-requires g c = let zeros = c.as_slice.ensures.value
    ∙ c.in_ok-words.ensures.items_if_clones_equal (λ y h. search rules) in
    let told = c.of.ensures in
    starts g.W.Work.lawful c.of.result.value.items c.args.passes _ _
    (omega (arith, ap length zeros, length-replicate {A = ℕ} (c.len.result + 1) 0, ap (λ v. length v.items) told))
    (λ k. ap (λ ws. get_or ws k 0) zeros ∙ zero_at _ k) (c.in_ok-slots.ensures ∙ sym (ap (λ v. map Job v.items) told))
    (c.requires.passes.0)
