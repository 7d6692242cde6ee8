use Rattle.std.proofs.Common.{List, arith, false, replicate, ℕ, ◌≡◌}
use Rattle.std.proofs.lemmas.{Bool.cases_Bool, Bool.Decides.eqb_tells}
use Rattle.msg_world.specs.{declared.limits.TheConstants.MAX_RESOURCES, declared.limits.TheConstants.MAX_TYPES, declared.part.Part.TheVariants.OfResource, declared.part.Part.TheVariants.OfType, declared.part.Part.TheVariants.Registry}
use Rattle.msg_order.specs.{Prelude.SystemSet, declared.users.Users.Users, inner.SystemSet.has, inner.Users.readers_of, inner.Users.writers_of}
use Rattle.msg_order.proofs.{SystemSets.has-no_set, UserRows.joined_more, SetPaths.none_in_sets, users.Users.of.Goals.then-joined-i, users.Users.of.Goals.else-joined-i}
use Rattle.msg_order.proofs.users.Users.of.Goals as goal

pub loop-i-init : goal.loop-i-init
loop-i-init c =
    let none = c.empty-none.result in
    let types = none_in_sets MAX_TYPES none c.empty-none.ensures in
    let resources = none_in_sets MAX_RESOURCES none c.empty-none.ensures in
    let of_type : List SystemSet = replicate MAX_TYPES none in
    let of_resource : List SystemSet = replicate MAX_RESOURCES none in
    let users : Users = record { read_types = of_type; write_types = of_type; read_res = of_resource; write_res = of_resource; registry = none } in
    record {
      read = λ p. elim p as (λ q. (k : ℕ) → has (readers_of users q) k ≡ false)
          [ OfType t ↦ λ k. types k t | OfResource r ↦ λ k. resources k r | Registry ↦ has-no_set ];
      written = λ p. elim p as (λ q. (k : ℕ) → has (writers_of users q) k ≡ false)
          [ OfType t ↦ λ k. types k t | OfResource r ↦ λ k. resources k r | Registry ↦ c.empty-none.ensures ];
    }

pub loop-i-preserved : goal.loop-i-preserved
loop-i-preserved c =
    let more = λ (k : ℕ). joined_more c.args.joined.now c.loop-i.i k (omega arith) in
    let were = c.loop-i.invariant in
    elim c.if-joined-i.branch [
      | then-joined-i w ↦ rw w.users-is (record {
        read = λ p k. grind (arith, cases_Bool, eqb_tells, more k, w.add.ensures.read p k, were.read p k);
        written = λ p k. grind (arith, cases_Bool, eqb_tells, more k, w.add.ensures.written p k, were.written p k);
      })
      | else-joined-i w ↦ rw w.users-is (record {
        read = λ p k. grind (arith, cases_Bool, more k, were.read p k);
        written = λ p k. grind (arith, cases_Bool, more k, were.written p k);
      })
    ]
