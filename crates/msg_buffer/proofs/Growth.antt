-- Histories only grow, and messages outlive one update.
use Rattle.std.proofs.Common.{suc, List, ◌≡◌, ◌∙◌, ap, arith, append-nil, length, length-append, refl}
use Rattle.std.proofs.lemmas.{Bool.cases_Bool, Bool.Decides.nat_tests, List.drop_all, List.length-map}
use Rattle.msg_buffer.specs.Prelude.{ClearsLeaveNone, History, IsSound, GoesOn, OnlyGrows, OutliveOneUpdate, clear, count, instances, is_present, oldest, write, update}
use Rattle.msg_buffer.proofs.{Histories.aged, Histories.dropped_and_kept, Histories.none_below, Histories.stamps-append, Histories.stamps_later, Numbers.length-instances}

module _ {M : Type 0} where
  write_goes_on : (h : History M) (ms : List M) → IsSound h → GoesOn h (write ms h)
  write_goes_on h ms sound =
      grind (arith, append-nil, cases_Bool, length-append, length-map, nat_tests, stamps-append)

  pub only_grows : OnlyGrows M
  only_grows h sound = grind (arith, append-nil, stamps_later, write_goes_on)

  pub outlive_one_update : OutliveOneUpdate M
  outlive_one_update h sound =
      let later = stamps_later 0 h.updates (suc h.updates) h.entries (omega arith) sound.stamps in (
        (aged h 0 0 h.entries sound.stamps).0,
        (aged (update h) 0 0 h.entries later).0 ∙ (aged h 0 0 h.entries sound.stamps).1,
      )

  pub clears_leave_none : ClearsLeaveNone M
  clears_leave_none h =
      let none = none_below (clear h) 0 h.entries (omega arith) in
      let gone : oldest (clear h) ≡ count h = omega (arith, dropped_and_kept (is_present (clear h)) 0 h.entries, ap length none.0) in (
        none.0,
        none.1,
        λ place. drop_all _ (instances h) (omega (arith, gone, length-instances h)),
        refl,
      )
