use Rattle.std.proofs.Common.{◌≡◌, ℤ, [], ◌∷◌, All, List, None, arith, ap, refl, subst, ◌∙◌}
use Rattle.msg_world.specs.Prelude.{i64_values}
use Rattle.msg_system.specs.{declared.condition.Probe.TheVariants.OnMessage, declared.op.Op.TheVariants.Read, declared.program.Program.Program, declared.start.Start.TheVariants.Zero}
use Rattle.msg_frames.specs.declared.frame.Frame.{Frame}
use Rattle.msg_frames.specs.Prelude.{IsSoundState, run}
use Rattle.msg_laws.specs.Prelude.{IsWokenBy, LogsTellEntries, NoWakeUpIsLost, NothingDrained, WhoseProgramReadsAllWhenWoken, log_entries}
use Rattle.msg_engine_tests.specs.Pairs.{pair_state, waking_state}
use Rattle.msg_engine_tests.proofs.pairs.run_waking.Goals as goal

-- the reader alone
abbrev reading : Program ℤ
reading = record { ops = Read 0 None ∷ []; start = Zero }

woken : IsWokenBy 0 1 waking_state
woken = record { place = 0; condition = refl; within = omega arith; behind = λ n above lt there. absurd (omega (arith, lt)) }

none_missed : NoWakeUpIsLost i64_values → WhoseProgramReadsAllWhenWoken i64_values → LogsTellEntries i64_values
    → (frames : List (Frame ℤ)) → IsSoundState waking_state → NothingDrained 0 waking_state (run frames waking_state).state
    → All (λ e. e.stretch.missed ≡ 0) (log_entries 1 0 (waking_state.members 1).job.system (run frames waking_state).logs)
none_missed law reads tell frames sound drained =
    let each = reads frames waking_state 1 0 reading 1 (waking_state.members 1).job.system.places refl (omega arith) refl in
    rw (tell 1 0 frames waking_state) (law frames waking_state 1 0 sound (omega arith) refl woken
    (λ n above lt. absurd (omega (arith, lt))) each drained).0

pub returns : goal.returns
returns g c =
    let frames : List (Frame ℤ) = c.args.frames.now in
    let waits : c.in-Ok.conditions.items ≡ record { nots = 0; probe = OnMessage 0 } ∷ [] = grind (arith, c.in-Ok.ensures.items) in
    let logs = c.in-Some.ensures.ran ∙ ap (λ conditions. (run frames (pair_state conditions)).logs) waits in
    let missed = none_missed c.no_wake_up_is_lost.ensures.law c.programs_read_all.ensures.woken
    c.each_message_meets_one_fate.ensures.logs frames (subst (λ conditions. IsSoundState (pair_state conditions)) waits c.in-Some.ensures.sound) in
    record { none_missed = rw logs missed }
