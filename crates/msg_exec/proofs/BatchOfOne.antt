-- A turn is a batch of one system.
use Rattle.std.proofs.Common.{◌≡◌, ◌≢◌, ℕ, ◌<◌, List, [], ◌∷◌, ◌++◌, Option, Some, Result, Ok, get_or, refl, arith, AllPairs}
use Rattle.std.proofs.Math.Bool.{or-false}
use Rattle.std.specs.{Bool.⊤, Global.Box}
use Rattle.msg_world.specs.declared.access.Access.{Access}
use Rattle.msg_world.specs.Prelude.{LendsOut, Parts, Values}
use Rattle.msg_system.specs.Prelude.{Meaning}
use Rattle.msg_exec.specs.Prelude.{GuardedSystem, HasTakenTurn, JobView, Lender, LenderStands, MayRun}
use Rattle.msg_frames.specs.declared.log.Outcome.{Outcome}
use Rattle.msg_frames.specs.declared.log.Outcome.TheVariants.{Skipped}
use Rattle.msg_frames.specs.declared.log.Turn.{Turn}
use Rattle.msg_frames.specs.Prelude.{State}
use Rattle.msg_exec.specs.inner.{Batches.HasTurned, Batches.IsBatch, SystemsOut.AreOut, SystemsOut.ComesHome}
use Rattle.msg_exec.proofs.BatchWritesApart.{Free}
use Rattle.msg_exec.proofs.BatchComesHome.{ComingHome, MayCome, all_came, begin_home, is_back, next_comes, next_may_come, IsBack}
use Rattle.msg_exec.proofs.BatchGoesOut.{all_may_run, left_stands}
use Rattle.std.proofs.lemmas.List.{get_or_read}

no_pairs : (R : ℕ → ℕ → Type 0) (i : ℕ) → AllPairs R (i ∷ [])
no_pairs R i = λ a b d lt l. absurd (omega arith)

module _ {S V : Type 0} {values : Values V} (meaning : S → Meaning V) {g : Lender S V} {s : State values} (i : ℕ) (stands : LenderStands meaning g s)
    (lt : i < s.systems) where
  one : IsBatch meaning g s (i ∷ [])
  one = record {
    stands = stands;
    below = λ k d l. grind arith;
    once = no_pairs (λ a b. a ≢ b) i;
    apart = no_pairs (Free g.accesses.items) i;
  }

  -- What its access writes is out, and the system is where it was.
  module _ {left taken : Parts V} {a : Access} {held : Option (Box (GuardedSystem S V))} {boxed : Box (GuardedSystem S V)}
      (is_its : a ≡ get_or g.accesses.items i a)
      (is_there : held ≡ get_or g.systems.items i held) (is_some : held ≡ Some boxed)
      (lent : LendsOut a g.world left taken) where
    abbrev its_job : JobView S V
    its_job = record { number = i; guarded = boxed.value; access = a; taken = taken; replies = []; outcome = Skipped }

    abbrev pub mid : Lender S V
    mid = record g { world = left }

    out : AreOut g (i ∷ []) (its_job ∷ []) mid
    out = grind (arith, get_or_read, or-false)

    pub may_take_turn : MayRun meaning left its_job
    may_take_turn = all_may_run meaning one out 0 its_job refl

    module _ {later : Parts V} {came : Outcome V} {after : GuardedSystem S V}
        (took : HasTakenTurn values meaning left taken boxed.value later came after) where
      abbrev pub its_done : JobView S V
      its_done = record { number = i; guarded = after; access = a; taken = later; replies = []; outcome = came }

      back : IsBack meaning g s i its_done
      back =
          is_back meaning mid i stands lt
          (left_stands meaning g mid s (i ∷ []) (its_job ∷ []) stands.world out) out.each.0
          (record { number = refl; turn = took })

      abbrev result : Result (JobView S V) ⊤
      result = Ok its_done

      begun : (turns : List (Turn V)) → ComingHome meaning g (i ∷ []) s (result ∷ []) mid turns turns
      begun turns = begin_home meaning one out (back, tt)

      pub may_come_home : MayCome mid its_done
      may_come_home = next_may_come meaning refl (begun [])

      pub turn_taken : {new : Lender S V} (turns : List (Turn V)) → ComesHome meaning mid its_done new
          → HasTurned meaning (i ∷ []) s new turns (turns ++ record { system = i; outcome = came } ∷ [])
      turn_taken turns comes = all_came meaning refl (next_comes meaning refl (begun turns) comes refl)
