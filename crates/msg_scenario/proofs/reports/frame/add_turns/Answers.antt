use Rattle.std.proofs.Common.{arith, ◌≡◌, ℕ, zero, suc, List, [], ◌∷◌, map, refl, flat_map, slice_get, zip, ℤ}
use Rattle.std.proofs.lemmas.List.{take_all}
use Rattle.std.specs.{Global.Vec, Option.option_map_or}
use Rattle.msg_system.specs.{declared.op.Op.Op, declared.reply.Reply.Reply}
use Rattle.msg_frames.specs.{declared.log.Outcome.Outcome}
use Rattle.msg_json.specs.Prelude.{Text}
use Rattle.msg_reading.specs.{declared.scenario.Scenario.Scenario, declared.scenario.SystemSpec.SystemSpec}
use Rattle.msg_scenario.specs.Prelude.{answered_line, op_start, ops_text, outcome_text, turn_text}
use Rattle.msg_scenario.specs.{declared.reports.lines.SystemLines.SystemLines, inner.LineStarts.finished_outcome, inner.LineStarts.finished_turn, inner.LineStarts.lines_of, inner.LineStarts.texts_in}
use Rattle.msg_scenario.proofs.reports.frame.add_turns.Goals as goal

-- the lines of ops, by their starts
ops_of_starts : (s : Scenario) (name : Text) (starts : List (Vec ℕ)) (ops : List (Op ℤ)) (answers : List (Reply ℤ))
    → map (λ (start : Vec ℕ). start.items) starts ≡ map (op_start s name) ops
    → flat_map (λ p. answered_line s p.0.items p.1) (zip starts answers) ≡ ops_text s name ops answers
ops_of_starts s name [] [] answers same = refl
ops_of_starts s name [] (op ∷ ops) answers same = absurd cc
ops_of_starts s name (start ∷ starts) [] answers same = absurd cc
ops_of_starts s name (start ∷ starts) (op ∷ ops) [] same = refl
ops_of_starts s name (start ∷ starts) (op ∷ ops) (answer ∷ answers) same =
    grind (arith, ops_of_starts s name starts ops answers)

-- what came of a turn, by the system's number
outcome_of_number : (s : Scenario) (lines : List SystemLines) (systems : List SystemSpec) (n : ℕ) (outcome : Outcome ℤ)
    → map texts_in lines ≡ map (lines_of s) systems
    → option_map_or (λ l. finished_outcome s l outcome) (slice_get lines n) []
    ≡ option_map_or (λ system. outcome_text s system outcome) (slice_get systems n) []
outcome_of_number s [] [] n outcome same = refl
outcome_of_number s [] (system ∷ systems) n outcome same = absurd cc
outcome_of_number s (l ∷ lines) [] n outcome same = absurd cc
outcome_of_number s (l ∷ lines) (system ∷ systems) zero outcome same =
    grind (arith, ops_of_starts s system.name l.starts.items system.program.ops)
outcome_of_number s (l ∷ lines) (system ∷ systems) (suc n) outcome same = outcome_of_number s lines systems n outcome cc

pub returns-clause-appends : goal.returns-clause-appends
returns-clause-appends c =
    let s = c.args.scenario.now in
    let turns = c.args.turns.now in
    let same : flat_map (finished_turn s c.args.lines.now) turns ≡ flat_map (turn_text s) turns =
    λ k. flat_map
    (λ turn. outcome_of_number s c.args.lines.now s.systems turn.system turn.outcome c.requires.lines k) turns in
    rw (take_all c.loop-turn.turn-index turns c.loop-turn-test.false, same) at c.loop-turn.invariant.made
