use Rattle.std.proofs.Common.{◌∙◌, ap, ◌++◌, ◌∷◌, [], ◌≡◌, map, None, arith, string_bytes}
use Rattle.indexmap.specs.IndexSet.{insert_key}
use Rattle.std.specs.Str.{bytes_eq}
use Rattle.msg_reading.specs.Prelude.{position_of}
use Rattle.msg_reading.proofs.NamesInOrder.{insert-new}
use Rattle.msg_reading.proofs.read.names.NameSpace.declare.Goals as goal

pub returns-clause-declares : goal.returns-clause-declares
returns-clause-declares c =
    let old = c.self.inside.names.keys in
    let key = c.in_ok-key.key in
    let name = c.args.name.now in
    let inserted : c.insert.new.self.keys ≡ insert_key (λ a b. bytes_eq (string_bytes a) (string_bytes b)) old key =
    grind (arith, c.in_ok-insert.ensures.keys) in
    let absent : position_of (map string_bytes old) name ≡ None =
    grind (arith, c.self.view_is, c.place.ensures.place, c.in_default.ensures) in
    ap (map string_bytes) inserted ∙ insert-new old key name c.in_ok-key.ensures.ok absent
    ∙ ap (λ s. s ++ name ∷ []) c.self.view_is
