-- The fault that is told of refused words fits the kinds of errors that clap finds in them.
use Rattle.std.proofs.Common.{◌≡◌, ◌⊎◌, inl, inr, refl, ap, subst, ◌∙◌, List, [], true, Result, Ok, Err, IfErr, IsErrAnd}
use Rattle.clap.specs.{Words.App, Words.HasKind, Words.IsAmong, Words.Kinds, Words.Text, Words.fault_of, Words.is_simple_and_free, declared.error.Error.Error, declared.error.ErrorKind.ErrorKind}
use Rattle.clap.proofs.OnLiterals.{clap_on_literals}
use Rattle.msg_command.specs.Prelude.{IsShown, IsWordFaultOf, WordFault, msgrun_app}
use Rattle.msg_command.specs.inner.Telling.{IsHelp}
use Rattle.clap.specs.declared.error.ErrorKind.TheVariants as kind
use Rattle.msg_command.specs.declared.words.WordFault.TheVariants as word

-- an error of one of these kinds, or of want of memory, is told as such
pub found_as : (k : ErrorKind) (kinds : Kinds) (fault : WordFault) → (k ≡ kind.OutOfMemory → fault ≡ word.NoMemory)
    → (IsHelp fault → IsShown k) → (fault ≡ word.Bad → ¬ IsShown k)
    → (k ≡ kind.OutOfMemory) ⊎ IsAmong k kinds → IsWordFaultOf kinds fault
found_as k kinds word.NoMemory memory help bad found = tt
found_as k kinds (word.Help text) memory help bad (inl none) = let no = memory none in cc
found_as k kinds (word.Help text) memory help bad (inr among) = (k, among, help tt)
found_as k kinds word.Bad memory help bad (inl none) = let no = memory none in cc
found_as k kinds word.Bad memory help bad (inr among) = inr (k, among, bad refl)

-- this command is simple and free, so clap says which errors its words may give
plain : is_simple_and_free msgrun_app ≡ true
unfolding clap_on_literals
plain = refl

pub found_in : (app : App) (words : List Text) (e : Error) → app ≡ msgrun_app
    → (is_simple_and_free app ≡ true → HasKind (fault_of app words) e) → HasKind (fault_of msgrun_app words) e
found_in app words e is kinds =
    subst (λ a. HasKind (fault_of a words) e) is (kinds (ap is_simple_and_free is ∙ plain))

pub accepted_in : (app : App) (words : List Text) → app ≡ msgrun_app
    → (is_simple_and_free app ≡ true → fault_of app words ≡ []) → fault_of msgrun_app words ≡ []
accepted_in app words is none = subst (λ a. fault_of a words ≡ []) is (none (ap is_simple_and_free is ∙ plain))

-- a fault that is handed on is want of memory, if it was that
pub told_on : {X : Type 0} (r : Result X WordFault) (e : WordFault) (taken asks : Type 0) → IsErrAnd r (λ f. f ≡ e)
    → (taken → e ≡ word.NoMemory)
    → IfErr r (λ f. taken → (f ≡ word.NoMemory) ⊎ ((f ≡ word.Bad) × asks))
told_on (Ok x) e taken asks is none = absurd is
told_on (Err f) e taken asks is none = λ t. inl (is ∙ none t)
