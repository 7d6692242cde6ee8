-- What is read from a loan, and written through it.
use Rattle.std.proofs.Common.{◌≡◌, ℕ, List, [], ◌∷◌, map, None, Some, refl, arith, IsSome}
use Rattle.std.specs.List.{AllZip}
use Rattle.std.proofs.lemmas.{Bool.cases_Bool, Bool.cases_lt, Bool.false≢true, Grind.common_steps, Bool.Decides.nat_tests}
use Rattle.msg_buffer.specs.Prelude.{History, Kept, StandsFor, given, present}
use Rattle.msg_buffer.proofs.Presence.{kept_stands}
use Rattle.msg_world.specs.{Prelude.LoanStands, declared.part.Part.TheVariants.OfType, declared.part.Part.Part, Prelude.WorldState, Prelude.shown, Prelude.writable, declared.lent.Lent.Lent, declared.record.Record.Record, Prelude.Values}

-- what may be written is shown
pub writable_is_shown : {V : Type 0} (p : Part) (l : Lent V) → IsSome (writable p l) → shown p l ≡ writable p l
writable_is_shown p l there = grind (arith, cases_Bool, false≢true)

pub written_messages_stand : {V : Type 0} {values : Values V} (l : Lent V) (s : WorldState values) (t : ℕ) (k : Kept (Record V)) → IsSome (writable (OfType t) l)
    → Some k ≡ writable (OfType t) l → LoanStands l s
    → StandsFor k (s.histories t)
written_messages_stand l s t k there is stand =
    rw (writable_is_shown (OfType t) l there, ← is) at (stand (OfType t))

-- a read from place 0 gives all that is present
pub all_given : {M : Type 0} (k : Kept M) (h : History M) → StandsFor k h → given h 0 None ≡ present h
all_given k h stand = grind (arith, stand.present, kept_stands k h stand)

-- what a function makes of items, if it gives what `f` gives
pub made_by : {X M : Type 0} (R : X → M → Type 0) (f : X → M) → ((x : X) (m : M) → R x m → m ≡ f x)
    → (xs : List X) (ms : List M) → AllZip R xs ms → ms ≡ map f xs
made_by R f is [] [] made = refl
made_by R f is (x ∷ xs) (m ∷ ms) made = rw (is x m made.0, made_by R f is xs ms made.1) refl
made_by R f is xs ms made = absurd made

-- what functions on a loan go by
pub ruleset of_loans = (common_steps, written_messages_stand, cases_lt, nat_tests)
