-- A job is done: its system ran or was skipped, and what the loan owned is given back as the job left it.
use Rattle.std.proofs.Common.{◌≡◌, true, false, List, [], Option, Some, None, Vec, map, refl, sym, ◌∙◌, arith, is_some}
use Rattle.std.specs.Vec.{with_items}
use Rattle.std.proofs.lemmas.{Bool.false≢true, List.length-map, List.with_items_is}
use Rattle.msg_world.specs.declared.lent.Lent.{Lent}
use Rattle.msg_world.specs.Prelude.{LoanStands, Parts, PartsStand, WorldState, Values}
use Rattle.msg_system.specs.declared.reply.Reply.{Reply}
use Rattle.msg_system.specs.Prelude.{Asked, Meaning, Ran, after_asking, after_job, after_turn, all_hold, after_replies, turn}
use Rattle.msg_exec.specs.Prelude.{GuardedSystem, IsAfterJob, job_state}
use Rattle.msg_frames.specs.declared.log.Outcome.TheVariants as outcome

pub none_there : {X : Type 0} (o : Option X) → is_some o ≡ false → o ≡ None
none_there None h = refl
none_there (Some x) h = absurd (false≢true (sym h))

module _ {V : Type 0} {values : Values V} where
  pub ran_job : {S : Type 0} (meaning : S → Meaning V) (before now : GuardedSystem S V) (l : Lent V) (taken : Parts V)
      (w : WorldState values) (none after replies : List (Reply V))
      → none ≡ [] → replies ≡ after → true ≡ all_hold before.guards.items w → now.guards.items
      ≡ map (after_asking w) before.guards.items
      → Ran values (meaning before.system) (meaning now.system) l taken none after → LoanStands l w
      → PartsStand taken (turn (meaning before.system) w).world
      → IsAfterJob meaning (after_job (job_state meaning before) w) now taken (outcome.Ran replies)
  ran_job meaning before now l taken w none after replies nothing given holds asked ran stands written =
      let moved : meaning now.system ≡ after_turn (meaning before.system) w = ran.means
      ∙ (λ k. record (after_replies (ran.answers w stands k) (meaning before.system)) {
        places = ran.places w stands k;
      }) in
      grind (arith, moved, ran.answers w stands)

  pub skipped_job : {S : Type 0} (meaning : S → Meaning V) (before now : GuardedSystem S V) (taken : Parts V) (w : WorldState values)
      → false ≡ all_hold before.guards.items w → now.system ≡ before.system → now.guards.items
      ≡ map (after_asking w) before.guards.items → PartsStand taken w
      → IsAfterJob meaning (after_job (job_state meaning before) w) now taken outcome.Skipped
  skipped_job meaning before now taken w skips same asked stand = grind arith

  -- the conditions of a vector after they were asked through a slice of it
  pub asked_guards : {Z : Type 0} (guards : Vec (Asked V) Z) {slice after : List (Asked V)} (w : WorldState values) → slice
      ≡ guards.items → map (λ (a : Asked V). a.condition) after ≡ map (λ (a : Asked V). a.condition) slice
      → after ≡ map (after_asking w) slice → (with_items guards after).items ≡ map (after_asking w) guards.items
  asked_guards guards {after = after} w there same moved =
      rw (with_items_is guards after (grind (arith, length-map)), moved, there) refl
