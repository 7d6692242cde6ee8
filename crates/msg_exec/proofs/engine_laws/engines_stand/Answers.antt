use Rattle.std.proofs.Common.{arith}
use Rattle.msg_exec.proofs.{EngineRunsFrames.core_of, EngineRunsFrames.has_counted, EngineRunsFrames.is_alive, EngineRunsFrames.is_sound, EngineRunsFrames.takes_posts, SinceThen.since_none}
use Rattle.msg_exec.proofs.engine_laws.engines_stand.Goals as goal

pub returns : goal.returns
returns g c =
    let m = g.S.SystemOf.meaning in
    record {
      alive = is_alive m;
      counted = has_counted m;
      fits = takes_posts m;
      since = since_none m;
      writers = λ e s stands i lt.
          let core = (core_of m e s stands).1.1 in
          (core.sound.writers i lt, omega (arith, lt, core.fixed.few));
      sound = is_sound m;
    }
