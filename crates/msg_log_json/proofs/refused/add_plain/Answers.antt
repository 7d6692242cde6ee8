use Rattle.std.proofs.Common.{[], ℕ, ◌≢◌, ◌<◌, ◌++◌, ◌∷◌, ◌∙◌, ap, append_assoc}
use Rattle.std.proofs.lemmas.List.Elements.{All-append, All-cons, All-nil}
use Rattle.msg_log_json.proofs.refused.add_plain.Goals as goal

pub loop-byte-preserved : goal.loop-byte-preserved
loop-byte-preserved c =
    let far = c.loop-byte.invariant in
    let byte = c.plain_byte.result in
    let Plain : ℕ → Type 0 = λ x. (31 < x) × (x ≢ 34) × (x ≢ 92) in (
      far.0 ++ byte ∷ [],
      All-append Plain far.0 (byte ∷ []) far.1 (All-cons Plain byte [] c.plain_byte.ensures.plain (All-nil Plain)),
      c.in_ok-push.ensures.items ∙ ap (λ l. l ++ byte ∷ []) far.2 ∙ append_assoc c.args.text.now.items far.0 (byte ∷ []),
    )
