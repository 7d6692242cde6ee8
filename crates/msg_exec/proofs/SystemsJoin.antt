-- Systems join one after the other.
use Rattle.std.proofs.Common.{◌≡◌, ◌≢◌, ℕ, ◌+◌, ◌<◌, ◌==◌, ◌&&◌, arith, nat_lt, if◌then◌else◌}
use Rattle.std.proofs.lemmas.Bool.Decides.{nat_tests}
use Rattle.msg_system.specs.Prelude.{Meaning}
use Rattle.msg_exec.specs.Prelude.{Lender, LenderStands}
use Rattle.msg_frames.specs.Prelude.{Member, State, counts, joined_member}
use Rattle.msg_world.specs.Prelude.{Values}

module _ {V : Type 0} {values : Values V} where
  -- those of the first n systems that join with a frame have joined
  abbrev pub joined_below : ℕ → ℕ → State values → State values
  joined_below n frame s =
      record s {
        members = λ j. if nat_lt j n && ((s.members j).join == frame) then joined_member (counts s) (s.members j)
            else s.members j;
      }

  -- the other systems aren't asked
  pub still : (s : State values) (i j frame : ℕ) → j ≢ i → (joined_below (i + 1) frame s).members j
      ≡ (joined_below i frame s).members j
  still s i j frame other = grind (arith, nat_tests)

module _ {S V : Type 0} {values : Values V} (meaning : S → Meaning V) where
  -- only the members that there are count
  pub members_alike : (g : Lender S V) (s : State values) (f : ℕ → Member V) → ((i : ℕ) → i < s.systems → f i ≡ s.members i)
      → LenderStands meaning g s → LenderStands meaning g (record s { members = f })
  members_alike g s f alike stands = grind arith
