-- What a function is given is what the world has.
use Rattle.std.proofs.Common.{◌≡◌, ◌≢◌, ℕ, Bool, List, [], ◌∷◌, None, Some, ap, arith, map, ne_eqb, slice_get, suc, sym, zero}
use Rattle.std.proofs.lemmas.Option.{none-some, same_Some}
use Rattle.msg_world.specs.Prelude.{Values, WorldState}
use Rattle.msg_system.specs.Prelude.{Meaning, after_program, brought, took, with_place, place_after_read}
use Rattle.msg_system.specs.declared.reply.Reply.TheVariants as reply
use Rattle.msg_function.specs.declared.port.Port.{Port}
use Rattle.msg_function.specs.declared.port.Port.TheVariants.{Messages, Resource}
use Rattle.msg_function.specs.Functions.{IsFirstAt, IsGivenTheWorld, given_by, missed_of, read_op, value_of}

module _ {V : Type 0} {values : Values V} where
  -- the reply to the first read of a type
  type_at : (reads : List Port) (w : ℕ) (ps : ℕ → ℕ) (s : WorldState values) (k t : ℕ) → IsFirstAt reads k (Messages t)
      → slice_get (after_program (map read_op reads) w ps s).replies k ≡ Some (reply.Read (took (s.histories t) (ps t) None))
  type_at [] w ps s k t at = absurd (none-some (Messages t) at.0)
  type_at (p ∷ reads) w ps s zero t at =
      ap (λ port. slice_get (after_program (read_op port ∷ map read_op reads) w ps s).replies 0) (same_Some p (Messages t) at.0)
  type_at (Messages u ∷ reads) w ps s (suc k) t at =
      let other : t ≢ u = λ e. at.1 0 (omega arith) (ap (λ x. Some (Messages x)) (sym e)) in
      let places = with_place ps u (place_after_read (s.histories u) (ps u) None) in
      let far = type_at reads w places s k t (at.0, λ j lt. at.1 (suc j) (omega (arith, lt))) in
      rw (ne_eqb t u other) at far
  type_at (Resource r ∷ reads) w ps s (suc k) t at = type_at reads w ps s k t (at.0, λ j lt. at.1 (suc j) (omega (arith, lt)))

  -- the reply to a read of a resource
  resource_at : (reads : List Port) (w : ℕ) (ps : ℕ → ℕ) (s : WorldState values) (k r : ℕ) → slice_get reads k ≡ Some (Resource r)
      → slice_get (after_program (map read_op reads) w ps s).replies k ≡ Some (reply.Value (s.resources r))
  resource_at [] w ps s k r at = absurd (none-some (Resource r) at)
  resource_at (p ∷ reads) w ps s zero r at =
      ap (λ port. slice_get (after_program (read_op port ∷ map read_op reads) w ps s).replies 0) (same_Some p (Resource r) at)
  resource_at (Messages u ∷ reads) w ps s (suc k) r at =
      resource_at reads w (with_place ps u (place_after_read (s.histories u) (ps u) None)) s k r at
  resource_at (Resource q ∷ reads) w ps s (suc k) r at = resource_at reads w ps s k r at

  pub is_given : (reads : List Port) (refused : List Bool) (m : Meaning V) (s : WorldState values)
      → IsGivenTheWorld reads m s (given_by refused (after_program (map read_op reads) m.writer m.places s).replies)
  is_given reads refused m s = record {
    messages = λ k t at. ap brought (type_at reads m.writer m.places s k t at);
    missed = λ k t at. ap missed_of (type_at reads m.writer m.places s k t at);
    value = λ k r at. ap value_of (resource_at reads m.writer m.places s k r at);
  }
