-- The turn of a function: what it reads, and then what it answers to that.
use Rattle.std.proofs.Common.{All, Bool, ◌≡◌, false, ℕ, zero, suc, ◌+◌, ◌-◌, ◌≤◌, ◌<◌, ◌++◌, true, List, [], ◌∷◌, length, map, Option, Some, None, take, drop, refl, sym, ap, subst, ◌∙◌, arith, inl, inr, append_assoc, option_map, option_to_list, IsTrue, slice_get, get_or}
use Rattle.std.proofs.lemmas.Bool.{cases_Bool, cases_lt}
use Rattle.std.proofs.lemmas.List.{append-nil, append_cancel_left, length-append, length-map, length-take, length-take-le, take_more, take_all, take_at}
use Rattle.std.proofs.Math.Seq.{drop-append_seam, take-append-add}
use Rattle.std.proofs.lemmas.Option.{none-some, same_Some, slice_get-get_or, slice_get_cases, slice_get_past}
use Rattle.msg_world.specs.{declared.lent.Lent.Lent, declared.part.Part.Part, Prelude.LoanStands, Prelude.Parts, Prelude.WorldState, Prelude.Values, Prelude.taken_of}
use Rattle.msg_system.specs.{declared.op.Op.Op, declared.reply.Reply.Reply}
use Rattle.msg_system.specs.Prelude.{AfterProgram, BeginsTurnsWith, Needs, after_at_most, after_op, after_program, cut_after, is_cut, keeps_to, next_done, may_read, next_op, ops_answered, after_replies, Meaning, Ran, cursor_places, turn}
use Rattle.msg_system.specs.declared.{limits.TheConstants.MAX_OPS, start.Start.Start}
use Rattle.msg_function.specs.declared.port.Port.{Port}
use Rattle.msg_function.specs.Functions.{Answer, FunctionOf, Kept, TurnIsWhole, given_by, kept_of, nothing, part_of, ports_needs, of_function, read_op, refused_parts, some_port_is, write_op, written_ops}
use Rattle.msg_system.specs.inner.TurnRuns.{IsAfterProgram}
use Rattle.msg_system.proofs.{Runs.same_part_refl, Turns.next_of_ops, Turns.one_reply_each, Turns.ops_answered-snoc, Turns.ran_turn, WholeTurns.ends_itself, WholeTurns.op_is_done, WholeTurns.told_alike}
use Rattle.msg_function.specs.declared.identity.Identity.{Identity}
use Rattle.msg_function.specs.inner.Runs.{OpsRan}
use Rattle.msg_function.proofs.{Steps.after_program-append, Steps.ran_then, Written.few_writes}

-- ---- of a list and another one behind it

pub slice_get-front : {X : Type 0} (xs ys zs : List X) (i : ℕ) → i < length xs → slice_get (xs ++ ys) i ≡ slice_get (xs ++ zs) i
slice_get-front [] ys zs i lt = grind (arith, lt)
slice_get-front (x ∷ xs) ys zs zero lt = refl
slice_get-front (x ∷ xs) ys zs (suc i) lt = slice_get-front xs ys zs i (omega (arith, lt))

take-nil : {X : Type 0} (n : ℕ) → take {A = X} n [] ≡ []
take-nil zero = refl
take-nil (suc n) = refl

-- the first ones of a longer list
pub take-take : {X : Type 0} (xs : List X) (m n : ℕ) → m ≤ n → take m (take n xs) ≡ take m xs
take-take xs zero n le = refl
take-take [] (suc m) n le = rw take-nil refl
take-take (x ∷ xs) (suc m) zero le = grind (arith, le)
take-take (x ∷ xs) (suc m) (suc n) le = ap (λ ys. x ∷ ys) (take-take xs m n (omega (arith, le)))

take_split : {X : Type 0} (xs ys : List X) (n m : ℕ) → n ≡ length xs + m → take n (xs ++ ys) ≡ xs ++ take m ys
take_split xs ys n m e = rw e (take-append-add xs ys m)

-- one item more
take_one : {X : Type 0} (xs : List X) (k : ℕ) (x : X) → k < length xs → get_or xs k x ≡ x → take (suc k) xs ≡ take k xs ++ x ∷ []
take_one xs k x lt is = grind (arith, take_more xs k x lt, is)

-- ---- a rule that gives ops by the first replies

module _ {V : Type 0} (needs : Needs) (reads : List (Op V)) (many : ℕ) (as_many : length reads ≡ many) (op_answers : List (Reply V) → List (Op V))
    (few : (told : List (Reply V)) → length (reads ++ op_answers told) ≤ MAX_OPS)
    (kept : (told : List (Reply V)) (i : ℕ) (op : Op V) → slice_get (reads ++ op_answers told) i ≡ Some op → keeps_to needs op ≡ true) where
  -- what is asked for
  abbrev pub rule : List (Reply V) → Option (Op V)
  rule replies = slice_get (reads ++ op_answers (take many replies)) (length replies)

  -- what comes next
  abbrev pub next : List (Reply V) → Option (Op V)
  next replies = next_done needs rule replies

  next_is : (replies : List (Reply V)) → next replies ≡ rule replies
  next_is replies =
      let first : List (Reply V) = take many replies in
      next_of_ops needs (reads ++ op_answers first) (length replies) (few first) (kept first (length replies))

  -- after what it reads was answered by these replies, the ops are these
  module _ (told : List (Reply V)) where
    abbrev ops : List (Op V)
    ops = reads ++ op_answers told

    -- as far as the first replies are these
    next_of : (replies : List (Reply V)) → (many ≤ length replies → take many replies ≡ told)
        → next replies ≡ slice_get ops (length replies)
    next_of replies same = elim (cases_lt (length replies) many) [
      | inl l ↦ next_is replies ∙ slice_get-front reads _ _ (length replies) (omega (arith, l, as_many))
      | inr m ↦ rw (next_is replies, same m) refl
    ]

    -- nothing is asked for once all were answered
    pub over : (replies : List (Reply V)) → take many replies ≡ told → length replies ≡ length ops → rule replies ≡ None
    over replies first all = rw (first, slice_get_past ops (length replies) (omega (arith, all))) refl

    -- the ops that replies answer
    answered_so_far : (replies : List (Reply V)) → take many replies ≡ told → length replies ≡ length ops
        → (k : ℕ) → k ≤ length replies → ops_answered next (take k replies) ≡ take k ops
    answered_so_far replies first all zero le = refl
    answered_so_far replies first all (suc k) le =
        elim ((slice_get_cases replies k).1) [
          | inl r ↦ elim ((slice_get_cases ops k).1) [
            | inl o ↦
                let more_replies : take (suc k) replies ≡ take k replies ++ r.0 ∷ [] = take_one replies k r.0 r.1 r.3 in
                let more_ops : take (suc k) ops ≡ take k ops ++ o.0 ∷ [] = take_one ops k o.0 o.1 o.3 in
                let long : length (take k replies) ≡ k = length-take-le k replies (omega (arith, le)) in
                let here = next_of (take k replies) (λ m. take-take replies many k (rw long at m) ∙ first) in
                rw (more_replies, more_ops, ops_answered-snoc, here, long, o.2, answered_so_far replies first all k (omega (arith, le))) refl
            | inr o ↦ absurd (omega (arith, le, all, o.0))
          ]
          | inr r ↦ absurd (omega (arith, le, r.0))
        ]

    -- the replies to all ops answer them
    pub answered_all : (replies : List (Reply V)) → take many replies ≡ told → length replies ≡ length ops
        → ops_answered next replies ≡ ops
    answered_all replies first all =
        rw (take_all (length replies) replies (omega arith), all, take_all (length ops) ops (omega arith))
        at (answered_so_far replies first all (length replies) (omega arith))

  -- a turn
  module _ {values : Values V} (w : ℕ) (ps : ℕ → ℕ) (s : WorldState values) where
    abbrev told_now : List (Reply V)
    told_now = (after_program reads w ps s).replies

    -- what it reads and what it then op_answers
    abbrev pub whole : List (Op V)
    whole = reads ++ op_answers told_now

    -- the first replies of a longer program
    pub first_replies : (ys : List (Op V)) → take many (after_program (reads ++ ys) w ps s).replies ≡ told_now
    first_replies ys = rw after_program-append (take_at told_now _ many (one_reply_each reads w ps s ∙ as_many))

    first_of : (n : ℕ) → many ≤ length (after_program (take n whole) w ps s).replies
        → take many (after_program (take n whole) w ps s).replies ≡ told_now
    first_of n le =
        let few : many ≤ n = omega (arith, le, one_reply_each (take n whole) w ps s, length-take n whole) in
        rw (take_split reads (op_answers told_now) n (n - many) (omega (arith, few, as_many))) (first_replies (take (n - many) (op_answers told_now)))

    turn_so_far : (n : ℕ) → after_at_most n next w ps s ≡ after_program (take n whole) w ps s
    turn_so_far zero = refl
    turn_so_far (suc n) =
        rw (turn_so_far n, next_of told_now _ (first_of n), one_reply_each) (elim (cases_lt n (length whole)) [
          | inl l ↦ elim ((slice_get_cases whole n).1) [
            | inl o ↦
                rw (length-take-le n whole (omega (arith, l)), o.2, take_one whole n o.0 o.1 o.3, after_program-append) refl
            | inr o ↦ absurd (omega (arith, l, o.0))
          ]
          | inr m ↦
              rw (take_all n whole m, take_all (suc n) whole (omega (arith, m)), slice_get_past whole (length whole) (omega arith)) refl
        ])

    pub turn_whole : (n : ℕ) → length whole ≤ n → after_at_most n next w ps s ≡ after_program whole w ps s
    turn_whole n few = rw (take_all n whole few) at (turn_so_far n)

-- ---- what a function reads and writes keeps to what it needs

module _ {V : Type 0} (n : Needs) where
  read_kept : (port : Port) (op : Op V) → IsTrue (may_read n (part_of port)) → read_op port ≡ op → keeps_to n op ≡ true
  read_kept port op may is = grind (arith, may, is)

  reads_kept : (ports : List Port) → ((p : Part) → IsTrue (some_port_is ports p) → IsTrue (may_read n p)) → (ys : List (Op V))
      → ((i : ℕ) (op : Op V) → slice_get ys i ≡ Some op → keeps_to n op ≡ true)
      → (i : ℕ) (op : Op V) → slice_get (map read_op ports ++ ys) i ≡ Some op → keeps_to n op ≡ true
  reads_kept [] all ys rest i op is = rest i op is
  reads_kept (port ∷ ports) all ys rest zero op is =
      read_kept port op (all (part_of port) (grind (arith, same_part_refl))) (same_Some _ _ is)
  reads_kept (port ∷ ports) all ys rest (suc i) op is = reads_kept ports (λ p h. all p (grind (arith, h))) ys rest i op is

  write_kept : (port : Port) (values : List V) (last : V) (op : Op V) → IsTrue (n.writes (part_of port)) → write_op port values last ≡ op
      → keeps_to n op ≡ true
  write_kept port values last op may is = grind (arith, may, is)

  one_kept : (port : Port) (values : List V) (o : Option V) → IsTrue (n.writes (part_of port)) → (ys : List (Op V))
      → ((i : ℕ) (op : Op V) → slice_get ys i ≡ Some op → keeps_to n op ≡ true)
      → (i : ℕ) (op : Op V) → slice_get (option_to_list (option_map (write_op port values) o) ++ ys) i ≡ Some op → keeps_to n op ≡ true
  one_kept port values None may ys rest i op is = rest i op is
  one_kept port values (Some last) may ys rest zero op is = write_kept port values last op may (same_Some _ _ is)
  one_kept port values (Some last) may ys rest (suc i) op is = rest i op is

  writes_kept : (ports : List Port) (answer : Answer V) → ((p : Part) → IsTrue (some_port_is ports p) → IsTrue (n.writes p))
      → (i : ℕ) (op : Op V) → slice_get (written_ops ports answer) i ≡ Some op → keeps_to n op ≡ true
  writes_kept [] answer all i op is = absurd (none-some op is)
  writes_kept (port ∷ ports) answer all i op is =
      one_kept port (answer 0) _ (all (part_of port) (grind (arith, same_part_refl))) _
      (writes_kept ports (λ k. answer (suc k)) (λ p h. all p (grind (arith, h)))) i op is

all_kept : {V : Type 0} (reads writes : List Port) (answer : Answer V) (i : ℕ) (op : Op V)
    → slice_get (map read_op reads ++ written_ops writes answer) i ≡ Some op → keeps_to (ports_needs reads writes) op ≡ true
all_kept reads writes answer i op is =
    let n : Needs = ports_needs reads writes in
    reads_kept n reads (λ p h. grind (arith, h, cases_Bool)) (written_ops writes answer) (writes_kept n writes answer (λ p h. h)) i op is

-- ---- no reply to an op that was done tells of a cut

all_are_done : {V : Type 0} {values : Values V} (ops : List (Op V)) (w : ℕ) (ps : ℕ → ℕ) (s : WorldState values)
    → All (λ reply. is_cut reply ≡ false) (after_program ops w ps s).replies
all_are_done [] w ps s i d lt = grind (arith, lt)
all_are_done (op ∷ ops) w ps s zero d lt = op_is_done op w ps s
all_are_done (op ∷ ops) w ps s (suc i) d lt = all_are_done ops w _ (after_op op w ps s).world i d (omega (arith, lt))

-- ---- a function

module _ {V M : Type 0} (answers : FunctionOf V M) (reads writes : List Port)
    (few : length reads + length writes ≤ MAX_OPS) (kept : Kept M) (start : Start) where
  -- what it makes of the replies to what it reads
  abbrev pub made : List (Reply V) → M × Answer V
  made told = answers kept.memory (given_by kept.refused told)

  abbrev op_answers : List (Reply V) → List (Op V)
  op_answers told = written_ops writes (made told).1

  abbrev ops_to : List (Reply V) → List (Op V)
  ops_to told = map read_op reads ++ op_answers told

  same_many : length (map (read_op {V = V}) reads) ≡ length reads
  same_many = length-map _ _

  few_ops : (told : List (Reply V)) → length (ops_to told) ≤ MAX_OPS
  few_ops told =
      omega (arith, few, same_many, length-append (map (read_op {V = V}) reads) (op_answers told), few_writes writes (made told).1)

  all_needed : (told : List (Reply V)) (i : ℕ) (op : Op V) → slice_get (ops_to told) i ≡ Some op → keeps_to (ports_needs reads writes) op ≡ true
  all_needed told = all_kept reads writes (made told).1

  module _ (w : ℕ) (ps : ℕ → ℕ) (last : List (Op V)) where
    abbrev now : Meaning V
    now = of_function answers reads writes kept start w ps last

    turn_is : {values : Values V} (s : WorldState values) → after_at_most MAX_OPS (next_op now) w ps s
        ≡ after_program (ops_to (after_program (map read_op reads) w ps s).replies) w ps s
    turn_is s =
        turn_whole (ports_needs reads writes) (map read_op reads) (length reads) same_many op_answers
        few_ops all_needed w ps s MAX_OPS (few_ops _)

    answered_is : (told replies : List (Reply V)) → take (length reads) replies ≡ told → length replies ≡ length (ops_to told)
        → ops_answered (next_op now) replies ≡ ops_to told
    answered_is told replies first long =
        answered_all (ports_needs reads writes) (map read_op reads) (length reads) same_many op_answers
        few_ops all_needed told replies first long

    -- what it is after a turn that was answered so
    after_is : (told replies : List (Reply V)) → take (length reads) replies ≡ told → length replies ≡ length (ops_to told) → (qs : ℕ → ℕ)
        → record (after_replies replies now) { places = qs }
        ≡ of_function answers reads writes (kept_of answers reads writes (made told) replies) start w qs (ops_to told)
    after_is told replies first long qs =
        let at : List (Reply V) → Meaning V =
        λ t. of_function answers reads writes (kept_of answers reads writes (made t) replies) start w qs (ops_to t) in
        let here : record (after_replies replies now) { places = qs } ≡ at (take (length reads) replies) =
        rw (answered_is (take (length reads) replies) replies refl (long ∙ ap (λ t. length (ops_to t)) (sym first))) refl in
        here ∙ ap at first

    -- then it asks for nothing more
    over_is : (told replies : List (Reply V)) → take (length reads) replies ≡ told → length replies ≡ length (ops_to told)
        → now.rule [] replies ≡ None
    over_is told replies first long =
        over (ports_needs reads writes) (map read_op reads) (length reads) same_many op_answers few_ops all_needed told replies first long

    -- A turn is whole, and after it the system has the memory that comes of it.
    pub is_whole : {values : Values V} (s : WorldState values) → TurnIsWhole answers reads writes kept now s
    unfolding turn
    is_whole {values} s =
        let read : List (Reply V) = (after_program (map read_op reads) w ps s).replies in
        let ops : List (Op V) = ops_to read in
        let done : AfterProgram values = after_program ops w ps s in
        let first : take (length reads) done.replies ≡ read =
        first_replies (ports_needs reads writes) (map read_op reads) (length reads) same_many op_answers few_ops all_needed w ps s (op_answers read) in
        let each : length done.replies ≡ length ops = one_reply_each ops w ps s in
        let is : turn now s ≡ done = told_alike (now.rule []) _ done (turn_is s) ∙ ends_itself now s done (over_is read done.replies first each) in
        record {
          is = is;
          after = subst (λ (e : AfterProgram values). record (after_replies e.replies now) { places = e.places }
              ≡ of_function answers reads writes (kept_of answers reads writes (made read) e.replies) start w e.places ops)
              (sym is) (after_is read done.replies first each done.places);
          uncut = subst (λ (e : AfterProgram values). All (λ reply. is_cut reply ≡ false) e.replies) (sym is) (all_are_done ops w ps s);
        }

  -- What a run gives that reads, answers and writes: a turn.
  pub function_ran : {values : Values V} (me mine his : Identity) (last : List (Op V)) (l m n : Lent V) (taken : Parts V) (a b c : List (Reply V))
      (memory : M) (answer : Answer V) (refused : List Bool)
      → OpsRan values (map read_op reads) me mine l m a b → (memory, answer) ≡ made (drop (length a) b)
      → OpsRan values (written_ops writes answer) mine his m n b c → refused ≡ refused_parts writes answer (drop (length b) c) → taken ≡ taken_of n
      → Ran values (of_function answers reads writes kept start me.writer (cursor_places me.cursors) last)
      (of_function answers reads writes (record { memory = memory; refused = refused }) start his.writer (cursor_places his.cursors)
      (map read_op reads ++ written_ops writes answer))
      l taken a c
  function_ran {values} me mine his last l m n taken a b c memory answer refused first is_made second noted is =
      let w : ℕ = me.writer in let ps : ℕ → ℕ = cursor_places me.cursors in let qs : ℕ → ℕ = cursor_places his.cursors in
      let told : List (Reply V) = first.replies.0 in
      let replies : List (Reply V) = told ++ second.replies.0 in
      let new_by : M × Answer V → ℕ → Meaning V =
      λ x v. of_function answers reads writes (kept_of answers reads writes x replies) start v qs (map read_op reads ++ written_ops writes x.1) in
      let made_now : (memory, answer) ≡ made told =
      rw (first.replies.1, drop-append_seam a told) at is_made in
      let ops : map read_op reads ++ written_ops writes answer ≡ ops_to told =
      ap (λ (x : M × Answer V). map read_op reads ++ written_ops writes x.1) made_now in
      let appended : c ≡ a ++ replies = rw (second.replies.1, first.replies.1, append_assoc) refl in
      let many : length replies ≡ length (map read_op reads ++ written_ops writes answer) =
      rw (length-append, length-append, first.replies.2, second.replies.2) refl in
      let as_many : length told ≡ length reads = first.replies.2 ∙ same_many in
      let front : take (length reads) replies ≡ told = take_at told _ (length reads) as_many in
      let behind : drop (length reads) replies ≡ second.replies.0 = rw (← as_many) (drop-append_seam told second.replies.0) in
      let refused_now : refused ≡ refused_parts writes answer (drop (length reads) replies) =
      rw (behind, noted, second.replies.1, drop-append_seam b second.replies.0) refl in
      let long : length replies ≡ length (ops_to told) = many ∙ ap length ops in
      let all : OpsRan values (map read_op reads ++ written_ops writes answer) me his l n a c = ran_then first second in
      let same_turn : (s : WorldState values) → LoanStands l s
      → after_at_most MAX_OPS (next_op (now w ps last)) w ps s ≡ after_program (map read_op reads ++ written_ops writes answer) w ps s =
      λ s stands.
      let same_told : told ≡ (after_program (map read_op reads) w ps s).replies =
      append_cancel_left a _ _ (sym first.replies.1 ∙ (first.ran s stands).same_replies) in
      turn_is w ps last s ∙ ap (λ t. after_program (ops_to t) w ps s) (sym same_told) ∙ ap (λ o. after_program o w ps s) (sym ops) in
      let ended : (now w ps last).rule [] replies ≡ None = over_is w ps last told replies front long in
      let quiet : replies ++ cut_after ((now w ps last).rule []) replies ≡ replies = rw (ended, append-nil) refl in
      subst (λ r. Ran values (now w ps last) (of_function answers reads writes (record { memory = memory; refused = r }) start his.writer qs
      (map read_op reads ++ written_ops writes answer)) l taken a c) (sym refused_now)
      (ran_turn (now w ps last) (new_by (memory, answer) his.writer) l n taken a c c
      (λ s stands. subst (λ e. IsAfterProgram e qs n a c) (sym (same_turn s stands)) (all.ran s stands))
      all.same is (replies, appended, ops ∙ sym (answered_is w ps last told replies front long), sym many)
      (rw (ended, append-nil) refl)
      (ap (λ x. new_by x his.writer) made_now ∙ ap (new_by (made told)) (second.writer ∙ first.writer)
      ∙ sym (after_is w ps last told replies front long qs)
      ∙ ap (λ rs. record (after_replies rs (now w ps last)) { places = qs }) (sym quiet)))

-- each turn begins by reading the parts
pub reads_first : {V M : Type 0} (answers : FunctionOf V M) (reads writes : List Port) (kept : Kept M) (start : Start) (w : ℕ) (ps : ℕ → ℕ)
    (last : List (Op V)) → length reads + length writes ≤ MAX_OPS
    → BeginsTurnsWith (map read_op reads) (of_function answers reads writes kept start w ps last)
reads_first {V} answers reads writes kept start w ps last few =
    let ops : List (Op V) = map read_op reads in
    let many : length ops ≡ length reads = length-map _ _ in
    record {
      few = omega (arith, few, many);
      kept = λ i d lt.
          let at : slice_get (ops ++ []) i ≡ Some (get_or ops i d) = rw append-nil (slice_get-get_or ops i d lt) in
          grind (arith, all_kept reads writes nothing i (get_or ops i d) (slice_get-front ops (written_ops writes nothing) [] i lt ∙ at));
      each = λ turns replies lt. slice_get-front ops _ [] (length replies) lt ∙ rw append-nil refl;
    }

-- as many parts were answered as are read
pub parts_told : {V : Type 0} {values : Values V} (reads : List Port) (me mine : Identity) (l m : Lent V) (a b : List (Reply V))
    → OpsRan values (map read_op reads) me mine l m a b → length (drop (length a) b) ≡ length reads
parts_told reads me mine l m a b ran = rw (ran.replies.1, drop-append_seam a ran.replies.0) (ran.replies.2 ∙ length-map _ _)
