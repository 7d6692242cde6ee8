-- The lines of answers are as many as the requests.
use Rattle.std.proofs.Common.{◌≡◌, ℕ, suc, ◌==◌, not, IsTrue, true, inl, inr, List, [], ◌∷◌, ◌++◌, length, refl, ap, ◌∙◌, arith, append_assoc, eqb-true}
use Rattle.std.specs.List.{AllZip, list_all}
use Rattle.std.proofs.lemmas.{Bool.and_from, Bool.cases_Bool, Bool.false≢true, List.Elements.All-weaker}
use Rattle.msg_frames.specs.Prelude.{State, accounts_of, writer_accounts_of, frame}
use Rattle.msg_world.specs.Prelude.{i64_values}
use Rattle.msg_json.specs.Prelude.{Text}
use Rattle.msg_reading.specs.Prelude.{is_name, is_name_character}
use Rattle.msg_reading.specs.declared.scenario.Scenario.{Scenario}
use Rattle.msg_log_json.proofs.OneLine.{Clean, HasCleanNames, IsLine, frame_is_line, is_other, not_json_is_line, readers_are_line, refusal_is_line, too_long_is_line}
use Rattle.msg_serve.specs.Prelude.{AsksFor, IsNamed, IsRefusedBy, Request, after_request, answer_of, lines_of, number_of, texts_of}
use Rattle.msg_serve.specs.Requests.{readers, refused, run}
use Rattle.msg_serve.specs.declared.limits.TheConstants.{MAX_LINE}

-- ---- names

character : (x : ℕ) → is_name_character x ≡ true → is_other x ≡ true
character x is = elim (cases_Bool (x == 10)) [
  | inl e ↦ absurd (false≢true (rw (eqb-true x 10 e) at is))
  | inr e ↦ ap not e
]

characters_clean : (name : Text) → list_all is_name_character name ≡ true → Clean name
characters_clean [] all = refl
characters_clean (x ∷ xs) all = elim (cases_Bool (is_name_character x)) [
  | inl e ↦ and_from (is_other x) (list_all is_other xs) (character x e) (characters_clean xs (rw e at all))
  | inr e ↦ absurd (false≢true (rw e at all))
]

name_clean : (name : Text) → IsTrue (is_name name) → Clean name
name_clean name is = characters_clean name (grind (arith, is))

names_clean : (s : Scenario) → IsNamed s → HasCleanNames s
names_clean s named = record {
  types = All-weaker _ _ (λ x is. name_clean x.0 is) s.types named.0;
  resources = All-weaker _ _ (λ x is. name_clean x.0 is) s.resources named.1;
  systems = All-weaker _ _ (λ x is. name_clean x.name is) s.systems named.2;
}

-- ---- lines

-- the first line of a text that begins with one
first_of : (text rest : Text) → Clean text → lines_of (text ++ 10 ∷ rest) ≡ text ∷ lines_of rest
first_of [] rest clean = refl
first_of (x ∷ xs) rest clean = elim (cases_Bool (x == 10)) [
  | inl e ↦ absurd (false≢true (rw e at clean))
  | inr e ↦ rw (e, first_of xs rest (rw e at clean)) refl
]

one_more : (line rest : Text) → IsLine line → length (lines_of (line ++ rest)) ≡ suc (length (lines_of rest))
one_more line rest is =
    let joined : line ++ rest ≡ is.0 ++ 10 ∷ rest = ap (λ l. l ++ rest) is.2 ∙ append_assoc is.0 (10 ∷ []) rest in
    ap (λ l. length (lines_of l)) joined ∙ ap length (first_of is.0 rest is.1)

refusal : (s : Scenario) (line text : Text) → IsRefusedBy s line text → IsLine text
refusal s line text (inl long) = rw long.1 (too_long_is_line MAX_LINE)
refusal s line text (inr (inl other)) = rw other.2.1 (not_json_is_line other.2.0)
refusal s line text (inr (inr why)) = rw why.1.4.2 (refusal_is_line why.1.1 why.1.4.0 why.1.4.1)

answer_is_line : (s : Scenario) → HasCleanNames s → (line : Text) (request : Request) (now : State i64_values)
    → AsksFor s line request → IsLine (answer_of s request now)
answer_is_line s names line (run f) now asks =
    let done = frame f now in frame_is_line s names (number_of done.state) f done.log done.state.world
answer_is_line s names line readers now asks = readers_are_line s names (accounts_of now) (writer_accounts_of now) now
answer_is_line s names line (refused text) now asks = refusal s line text asks

lines_each : (s : Scenario) → HasCleanNames s → (lines : List Text) (requests : List Request) (now : State i64_values)
    → AllZip (AsksFor s) lines requests → length (lines_of (texts_of s requests now)) ≡ length lines
lines_each s names [] [] now all = refl
lines_each s names [] (r ∷ requests) now all = absurd all
lines_each s names (line ∷ lines) [] now all = absurd all
lines_each s names (line ∷ lines) (r ∷ requests) now all =
    one_more (answer_of s r now) (texts_of s requests (after_request r now)) (answer_is_line s names line r now all.0)
    ∙ ap suc (lines_each s names lines requests (after_request r now) all.1)

pub one_line_each : (s : Scenario) (lines : List Text) (requests : List Request) (now : State i64_values) → IsNamed s
    → AllZip (AsksFor s) lines requests → length (lines_of (texts_of s requests now)) ≡ length lines
one_line_each s lines requests now named all = lines_each s (names_clean s named) lines requests now all
