-- Each line of JSON is one line: it has one line feed, at its end.
use Rattle.std.proofs.Common.{◌≡◌, ◌≢◌, ℕ, suc, zero, ℤ, pos, negsuc, ◌+◌, ◌<◌, ◌==◌, nat_lt, not, All, Bool, true, false, inl, inr, List, [], ◌∷◌, ◌++◌, Option, Some, None, slice_get, zip, flat_map, codes, decimal, refl, ap, sym, ◌∙◌, arith, ◌/◌, ◌%◌, append_assoc, ne_eqb}
use Rattle.std.specs.{Fmt.digits, Fmt.digit_glyph, Fmt.digits_onto, Fmt.signed_decimal, List.enumerate_from, List.list_all, Option.option_map_or}
use Rattle.std.proofs.lemmas.{Bool.and_from, Bool.cases_Bool, List.Elements.All-head, List.Elements.All-tail, List.Folds.list_all-append}
use Rattle.msg_buffer.specs.{Prelude.count, Prelude.oldest, declared.instance.Written.Written}
use Rattle.msg_world.specs.{Prelude.WorldState, Prelude.i64_values, declared.record.Record.Record, declared.record.TheConstants.HOST}
use Rattle.msg_system.specs.{declared.op.Op.Op, declared.reply.Took.Took, declared.reply.Reply.Reply}
use Rattle.msg_system.specs.declared.op.Op.TheVariants as op
use Rattle.msg_system.specs.declared.reply.Reply.TheVariants as reply
use Rattle.msg_frames.specs.{Prelude.State, Prelude.backlog_of, declared.account.Account.Account, declared.backlog.Backlog.Backlog, declared.frame.Frame.Frame, declared.log.Log.Log, declared.log.Turn.Turn, declared.writer_account.WriterAccount.WriterAccount}
use Rattle.msg_frames.specs.declared.log.Outcome.{Outcome}
use Rattle.msg_frames.specs.declared.log.Outcome.TheVariants.{Ran, Skipped}
use Rattle.msg_json.specs.Prelude.{Text}
use Rattle.msg_json.specs.{Faults.reason_refusal, declared.fault.Fault.Fault, declared.refusal.Refusal.Refusal}
use Rattle.msg_json.specs.declared.refusal.Refusal.TheVariants as refusal
use Rattle.msg_reading.specs.Prelude.{resource_name, system_name, type_name, writer_name}
use Rattle.msg_reading.specs.{declared.scenario.Scenario.Scenario, declared.scenario.SystemSpec.SystemSpec}
use Rattle.msg_log_json.specs.LogJson.{account_json, answer_json, comma_before, frame_line, happened_json, items_json, kept_json, list_item, listed, message_json, numbered, numbers_json, of_resource, of_type, op_json, outcome_json, past_json, post_json, readers_line, reply_json, resource_json, resources_json, rest_json, standing_json, took_json, turn_json, type_json, types_json, use_json, value_json, writer_json, wrote_json}
use Rattle.msg_log_json.specs.RefusedJson.{IsPlain, not_json_line, number_step, place_json, refused_head, refused_line, too_long_line}

-- a byte isn't the line feed
abbrev pub is_other : ℕ → Bool
is_other byte = not (byte == 10)

-- the text has no line feed
abbrev pub Clean : Text → Type 0
Clean text = list_all is_other text ≡ true

-- one text after another
pub join : (xs ys : Text) → Clean xs → Clean ys → Clean (xs ++ ys)
join xs ys first second =
    list_all-append is_other xs ys ∙ and_from (list_all is_other xs) (list_all is_other ys) first second

-- a text without a line feed, and then one
abbrev pub IsLine : Text → Type 0
IsLine line = (text : Text) × Clean text × (line ≡ text ++ 10 ∷ [])

lead : (xs ys : Text) → Clean xs → IsLine ys → IsLine (xs ++ ys)
lead xs ys clean line = (
  xs ++ line.0,
  join xs line.0 clean line.1,
  ap (λ l. xs ++ l) line.2 ∙ sym (append_assoc xs line.0 (10 ∷ [])),
)

-- ---- numbers

glyph : (upper : Bool) (d : ℕ) → is_other (digit_glyph upper d) ≡ true
glyph upper d = grind arith

digits_clean : (k base n : ℕ) (upper : Bool) (acc : Text) → Clean acc → Clean (digits_onto k base upper n acc)
digits_clean zero base n upper acc clean = clean
digits_clean (suc k) base n upper acc clean =
    let more : Clean (digit_glyph upper (n % base) ∷ acc) =
    and_from (is_other (digit_glyph upper (n % base))) (list_all is_other acc) (glyph upper (n % base)) clean in
    elim (cases_Bool (n / base == 0)) [
      | inl e ↦ rw e more
      | inr e ↦ rw e (digits_clean k base (n / base) upper (digit_glyph upper (n % base) ∷ acc) more)
    ]

number : (n : ℕ) → Clean (decimal n)
unfolding digits
number n = digits_clean 64 10 n false [] refl

signed : (z : ℤ) → Clean (signed_decimal z)
signed (pos n) = number n
signed (negsuc n) = number (suc n)

-- ---- lists

comma : (k : ℕ) → Clean (comma_before k)
comma zero = refl
comma (suc k) = refl

all_clean : {X : Type 0} (f : ℕ × X → Text) (n : ℕ) (xs : List X) → ((x : ℕ × X) → Clean (f x))
    → Clean (flat_map (list_item f) (enumerate_from n xs))
all_clean f n [] each = refl
all_clean f n (x ∷ xs) each =
    join (list_item f (n, x)) (flat_map (list_item f) (enumerate_from (n + 1) xs))
    (join (comma_before n) (f (n, x)) (comma n) (each (n, x))) (all_clean f (n + 1) xs each)

list_clean : {X : Type 0} (f : X → Text) (xs : List X) → ((x : X) → Clean (f x)) → Clean (listed f xs)
unfolding numbered
list_clean f xs each = all_clean (λ x. f x.1) 0 xs (λ x. each x.1)

-- the names of these have no line feed
abbrev pub CleanNames : {X : Type 0} → (X → Text) → List X → Type 0
CleanNames name xs = All (λ x. Clean (name x)) xs

named_clean : {X : Type 0} (name : X → Text) (f : ℕ × X → Text) (n : ℕ) (xs : List X) → CleanNames name xs
    → ((k : ℕ) (x : X) → Clean (name x) → Clean (f (k, x)))
    → Clean (flat_map (list_item f) (enumerate_from n xs))
named_clean name f n [] names each = refl
named_clean name f n (x ∷ xs) names each =
    join (list_item f (n, x)) (flat_map (list_item f) (enumerate_from (n + 1) xs))
    (join (comma_before n) (f (n, x)) (comma n) (each n x (All-head (λ y. Clean (name y)) x xs names)))
    (named_clean name f (n + 1) xs (All-tail (λ y. Clean (name y)) x xs names) each)

-- the name of one by its number
name_at : {X : Type 0} (name : X → Text) (xs : List X) (k : ℕ) → CleanNames name xs
    → Clean (option_map_or name (slice_get xs k) [])
name_at name [] k names = refl
name_at name (x ∷ xs) zero names = All-head (λ y. Clean (name y)) x xs names
name_at name (x ∷ xs) (suc k) names = name_at name xs k (All-tail (λ y. Clean (name y)) x xs names)

-- the names of a scenario have no line feed
pub record HasCleanNames (s : Scenario) : Type 0 where
  pub types : CleanNames (λ named. named.0) s.types
  pub resources : CleanNames (λ named. named.0) s.resources
  pub systems : CleanNames (λ system. system.name) s.systems

module _ (s : Scenario) (names : HasCleanNames s) where
  of_a_type : (t : ℕ) → Clean (type_name s t)
  of_a_type t = name_at (λ named. named.0) s.types t names.types

  of_a_resource : (r : ℕ) → Clean (resource_name s r)
  of_a_resource r = name_at (λ named. named.0) s.resources r names.resources

  of_a_system : (i : ℕ) → Clean (system_name s i)
  of_a_system i = name_at (λ system. system.name) s.systems i names.systems

  of_a_writer : (w : ℕ) → Clean (writer_name s w)
  of_a_writer w = elim (cases_Bool (w == HOST)) [ inl e ↦ rw e refl | inr e ↦ rw e (of_a_system w) ]

  -- ---- replies

  written : (n : Written) → Clean (numbers_json n)
  written n = simp (list_all-append is_other, number)

  message : (m : Record ℤ) → Clean (message_json s m)
  message m = simp (list_all-append is_other, signed, of_a_writer)

  items : (first : ℕ) (xs : List (Record ℤ)) → Clean (items_json s first xs)
  items first xs = simp (list_all-append is_other, number, list_clean (message_json s) xs message)

  took : (t : Took ℤ) → Clean (took_json s t)
  took t = simp (list_all-append is_other, number, items)

  wrote : (n : Option Written) → Clean (wrote_json n)
  wrote None = refl
  wrote (Some n) = simp (list_all-append is_other, number)

  value : (z : ℤ) → Clean (value_json z)
  value z = simp signed

  answer : (r : Reply ℤ) → Clean (reply_json s r)
  answer (reply.Wrote n) = written n
  answer reply.Spent = refl
  answer (reply.Read t) = took t
  answer (reply.Len n) = simp number
  answer (reply.Missed n) = simp number
  answer (reply.Cleared missed first n) = simp (list_all-append is_other, number)
  answer (reply.Forwarded t n) = simp (list_all-append is_other, took, wrote)
  answer (reply.Summed t z) = simp (list_all-append is_other, took, value)
  answer (reply.Value z) = value z
  answer (reply.Drained first xs) = items first xs
  answer reply.Signalled = refl
  answer (reply.Outside op) = refl
  answer (reply.Full op) = refl

  -- ---- turns

  on_type : (t : ℕ) → Clean (of_type s t)
  unfolding of_type
  on_type t = simp of_a_type

  on_resource : (r : ℕ) → Clean (of_resource s r)
  unfolding of_resource
  on_resource r = simp of_a_resource

  what_op : (x : Op ℤ) → Clean (op_json s x)
  what_op (op.Write t z) = simp on_type
  what_op (op.Batch t zs) = simp on_type
  what_op (op.Read t limit) = simp on_type
  what_op (op.Len t) = simp on_type
  what_op (op.Missed t) = simp on_type
  what_op (op.Clear t) = simp on_type
  what_op (op.Forward t u) = simp (list_all-append is_other, on_type, of_a_type)
  what_op (op.Sum t r) = simp (list_all-append is_other, on_type, on_resource)
  what_op (op.Get r) = simp on_resource
  what_op (op.Set r z) = simp on_resource
  what_op (op.Add r z) = simp on_resource
  what_op (op.Drain t) = simp on_type
  what_op op.Signal = refl

  op_and_answer : (p : Op ℤ × Reply ℤ) → Clean (answer_json s p)
  op_and_answer p = simp (list_all-append is_other, what_op, answer)

  outcome : (system : SystemSpec) (o : Outcome ℤ) → Clean (outcome_json s system o)
  outcome system Skipped = refl
  outcome system (Ran answers) =
      simp (list_all-append is_other, list_clean (answer_json s) (zip system.program.ops answers) op_and_answer)

  outcome_at : (xs : List SystemSpec) (k : ℕ) (o : Outcome ℤ)
      → Clean (option_map_or (λ system. outcome_json s system o) (slice_get xs k) [])
  outcome_at [] k o = refl
  outcome_at (x ∷ xs) zero o = outcome x o
  outcome_at (x ∷ xs) (suc k) o = outcome_at xs k o

  turn : (t : Turn ℤ) → Clean (turn_json s t)
  turn t = simp (list_all-append is_other, of_a_system, outcome_at)

  -- ---- a frame

  post : (p : (ℕ × ℤ) × Reply ℤ) → Clean (post_json s p)
  post p = simp (list_all-append is_other, of_a_type, answer)

  kept : (name : Text) (first count : ℕ) → Clean name → Clean (kept_json name first count)
  unfolding kept_json
  kept name first count clean = simp (list_all-append is_other, number, clean)

  types : (w : WorldState i64_values) → Clean (types_json s w)
  unfolding numbered
  types w = simp (
    list_all-append is_other,
    named_clean (λ named. named.0) (λ x. type_json x.1.0 (w.histories x.0)) 0 s.types names.types
        (λ k x clean. kept x.0 (oldest (w.histories k)) (count (w.histories k)) clean),
  )

  valued : (name : Text) (z : ℤ) → Clean name → Clean (resource_json name z)
  valued name z clean = simp (list_all-append is_other, signed, clean)

  resources : (w : WorldState i64_values) → Clean (resources_json s w)
  unfolding numbered
  resources w = simp (
    list_all-append is_other,
    named_clean (λ named. named.0) (λ x. resource_json x.1.0 (w.resources x.0)) 0 s.resources
        names.resources (λ k x clean. valued x.0 (w.resources k) clean),
  )

  happened : (f : Frame ℤ) (log : Log ℤ) → Clean (happened_json s f log)
  unfolding happened_json
  happened f log = simp (list_all-append is_other, list_clean (post_json s) (zip f.posts log.posts) post, list_clean (turn_json s) log.turns turn)

  -- ---- readers

  standing : (a : Account) (start : Option ℕ) → Clean (standing_json a start)
  unfolding standing_json
  standing a None = refl
  standing a (Some start) = simp (list_all-append is_other, number)

  past : (left : Backlog) (count : ℕ) → Clean (past_json left count)
  past left count = simp (list_all-append is_other, number)

  rest : (types : ℕ) (now : State i64_values) (a : Account) → Clean (rest_json types now a)
  rest types now a = elim (cases_Bool (nat_lt a.of_type types)) [
    | inl e ↦ rw e (past (backlog_of now a) (count (now.world.histories a.of_type)))
    | inr e ↦ rw e refl
  ]

  used : (i t : ℕ) → Clean (use_json s i t)
  unfolding use_json
  used i t = simp (list_all-append is_other, of_a_system, of_a_type)

  account : (now : State i64_values) (a : Account) → Clean (account_json s now a)
  account now a = simp (list_all-append is_other, used, standing, rest)

  -- ---- their lines

  pub frame_is_line : (n : ℕ) (f : Frame ℤ) (log : Log ℤ) (w : WorldState i64_values) → IsLine (frame_line s n f log w)
  frame_is_line n f log w =
      let head = codes "{\"frame\":" ++ decimal n in
      let told = head ++ happened_json s f log in
      let all = join (told ++ types_json s w) (resources_json s w)
      (join told (types_json s w) (join head (happened_json s f log) (simp number) (happened f log)) (types w)) (resources w) in
      lead (told ++ types_json s w ++ resources_json s w) (codes "}\n") all (codes "}", refl, refl)

  writer : (a : WriterAccount) → Clean (writer_json s a)
  writer a = simp (list_all-append is_other, used, number)

  pub readers_are_line : (accounts : List Account) (writers : List WriterAccount) (now : State i64_values)
      → IsLine (readers_line s accounts writers now)
  readers_are_line accounts writers now =
      let told = listed (account_json s now) accounts in
      let wrote = listed (writer_json s) writers in
      let head = codes "{\"readers\":[" in
      let between = codes "],\"writers\":[" in
      let read = join head told refl (list_clean (account_json s now) accounts (account now)) in
      let all = join (head ++ told ++ between) wrote (join (head ++ told) between read refl) (list_clean (writer_json s) writers writer) in
      lead (head ++ told ++ between ++ wrote) (codes "]}\n") all (codes "]}", refl, refl)

-- ---- refusals

head_clean : (r : Refusal) → Clean (refused_head r)
unfolding refused_head
head_clean refusal.NotJson = refl
head_clean refusal.Shape = refl
head_clean refusal.UnknownKey = refl
head_clean refusal.BadName = refl
head_clean refusal.TwiceNamed = refl
head_clean refusal.BadNumber = refl
head_clean refusal.TooMany = refl
head_clean refusal.UnknownName = refl
head_clean (refusal.Clash s) = refl
head_clean (refusal.Cycle s) = refl
head_clean refusal.NoMemory = refl

step_clean : (n : Option ℕ) → Clean (number_step n)
step_clean None = refl
step_clean (Some n) = simp (list_all-append is_other, number)

plain_clean : (why : Text) → IsPlain why → Clean why
plain_clean [] plain = refl
plain_clean (x ∷ xs) plain =
    let first = All-head (λ byte. (31 < byte) × (byte ≢ 34) × (byte ≢ 92)) x xs plain in
    let other : (x == 10) ≡ false = ne_eqb x 10 (λ is. omega (arith, first.0, is)) in
    and_from (is_other x) (list_all is_other xs) (ap not other)
    (plain_clean xs (All-tail (λ byte. (31 < byte) × (byte ≢ 34) × (byte ≢ 92)) x xs plain))

pub refusal_is_line : (e : Fault) (why : Text) → IsPlain why → IsLine (refused_line e why)
refusal_is_line e why plain = (
  refused_head (reason_refusal e.reason) ++ place_json e.location ++ codes "\",\"why\":\"" ++ why ++ codes "\"}",
  simp (list_all-append is_other, head_clean, step_clean, plain_clean why plain),
  simp append_assoc,
)

pub not_json_is_line : (column : ℕ) → IsLine (not_json_line column)
not_json_is_line column = (
  refused_head refusal.NotJson ++ (codes "column " ++ decimal column) ++ codes "\",\"why\":\"" ++ codes "wanted JSON"
      ++ codes "\"}",
  simp (list_all-append is_other, head_clean, number),
  simp append_assoc,
)

pub too_long_is_line : (most : ℕ) → IsLine (too_long_line most)
too_long_is_line most = (
  refused_head refusal.TooMany ++ codes "\",\"why\":\"" ++ (codes "at most " ++ decimal most) ++ codes " bytes"
      ++ codes "\"}",
  simp (list_all-append is_other, head_clean, number),
  simp append_assoc,
)
