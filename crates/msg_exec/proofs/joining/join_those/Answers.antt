use Rattle.std.proofs.Common.{◌+◌, inl, inr, ◌≡◌, ◌<◌, None, length, option_map, slice_index_or, sym, ap, ◌∙◌, arith, refl}
use Rattle.std.specs.{Global.Box, Vec.with_items}
use Rattle.msg_buffer.specs.Prelude.{count}
use Rattle.std.proofs.lemmas.{Bool.cases_eq, Bool.eq-eqb, Bool.le-ltb, Bool.lt-ltb, Bool.Decides.nat_tests, List.FromFn.fill_by_all, Option.get_or_from_slice_get, List.get_or_default, List.get_or-set_other, List.get_or-set_same, List.length-set, List.with_items_is, Simd.map-map}
use Rattle.msg_frames.specs.Prelude.{Member, counts, job_begun, totals_from, with_joining}
use Rattle.msg_exec.specs.Prelude.{GuardedSystem}
use Rattle.msg_exec.proofs.{SystemsJoin.joined_below, SystemsJoin.members_alike, SystemsJoin.still, SystemAfterTurn.member_stays, SystemAfterTurn.totals_there, ItemsOfLists.get_other, ItemsOfLists.get_same, ItemsOfLists.some_of, ItemsOfLists.some_under}
use Rattle.msg_exec.specs.inner.Totals.{first_place}
use Rattle.msg_system.specs.Prelude.{Job as JobState}
use Rattle.msg_exec.proofs.joining.join_those.Goals as goal

pub loop-i-preserved-then-joins-i : goal.loop-i-preserved-then-joins-i
loop-i-preserved-then-joins-i g c =
    let inv = c.loop-i.invariant in
    let i = c.loop-i.i in
    record {
      so_far = λ s stands joins fresh.
          members_alike g.S.SystemOf.meaning c.loop-i.lender (joined_below i c.args.frame s)
          (joined_below (i + 1) c.args.frame s).members
          (λ j lt. let none = joins.each i (omega (arith, joins.as_many)) in grind (arith, nat_tests, none))
          (inv.so_far s stands joins fresh);
      systems = inv.systems;
      totals = inv.totals;
      accesses = inv.accesses;
      world = inv.world;
    }

pub join_one-requires : goal.join_one-requires
join_one-requires g c =
    let (s, (stands, joins, fresh)) = c.requires.stands in
    let now = c.loop-i.invariant.so_far s stands joins fresh in
    let its = totals_there g.S.SystemOf.meaning now c.index_mut-in-loop-i.ensures.value
    (omega (arith, joins.as_many)) in
    record {
      few = rw (c.deref_mut.ensures.value, its.as_many)
          (omega (arith, stands.types, c.counts-counts.ensures.few, c.counts-counts.ensures.types));
    }

pub loop-i-preserved : goal.loop-i-preserved
loop-i-preserved g c =
    let inv = c.loop-i.invariant in
    let i = c.loop-i.i in
    record {
      so_far = λ s stands joins fresh.
          let lt : i < s.systems = omega (arith, joins.as_many) in
          let m = g.S.SystemOf.meaning in
          let lender = c.loop-i.lender in
          let cs = c.counts-counts.result in
          let x = c.join_one.new.slot in
          let member : Member g.row.V.Denot = s.members i in
          let far = c.loop-i.invariant.so_far s stands joins fresh in
          let its = totals_there m far c.index_mut-in-loop-i.ensures.value lt in
          let w = with_items c.index_mut-in-loop-i.result.now c.join_one.new.totals in
          let read : w.items ≡ c.join_one.new.totals =
          with_items_is c.index_mut-in-loop-i.result.now c.join_one.new.totals
          (omega (arith, c.join_one.ensures.as_many, c.deref_mut.ensures.len)) in
          let many : length w.items ≡ s.types = grind (arith, its.as_many, read) in
          let slot = c.index_mut.result.now in
          let there : slice_index_or lender.systems.items i None ≡ slot =
          get_or_default lender.systems.items i None slot (omega (arith, lt, far.systems))
          ∙ sym c.index_mut.ensures.value in
          let same : cs ≡ counts s =
          fill_by_all (λ t. count (s.world.histories t)) cs s.types 0
          (c.counts-counts.ensures.types ∙ stands.types) (λ k lt. grind (arith, get_or_from_slice_get)) in
          let here = rw (le-ltb i i (omega arith)) at (far.members i lt) in
          let a = some_under _ (λ (b : Box (GuardedSystem g.row.S.Denot g.row.V.Denot)). b.value) slot (rw there at here.guarded) in
          let b = some_of x (rw a.1.0 at c.join_one.ensures.begun) in
          let opened = rw a.1.0 at c.join_one.ensures.opened in
          let joined : (s.members i).join ≡ c.args.frame = sym (joins.each i lt) ∙ c.if-joins-i.false in
          record {
            systems = rw length-set far.systems;
            accesses = far.accesses;
            totals = rw length-set far.totals;
            members = λ j below. elim (cases_eq j i) [
              | inl is ↦ rw (is, lt-ltb i (i + 1) (omega arith), eq-eqb _ _ joined, ← same) (record {
                guarded = rw (get_or-set_same lender.systems.items i x None (omega (arith, lt, far.systems)), b.1.0)
                    (b.1.1 ∙ ap (job_begun cs) a.1.1);
                access = rw map-map here.access;
                home = here.home;
                totals = rw (get_same lender.totals.items i w (omega (arith, lt, far.totals))) (record {
                  as_many = many;
                  each = λ t below. rw read (opened t (rw (← c.join_one.ensures.as_many, ← read, many) below)
                      ∙ ap (λ (j : JobState g.row.V.Denot). totals_from (first_place j.system cs t)) a.1.1
                      ∙ rw (fresh i t joined) refl);
                });
              })
              | inr other ↦ rw (still s i j c.args.frame other)
                  (member_stays m lender _ s.types j ((joined_below i c.args.frame s).members j)
                  (ap (option_map _) (get_or-set_other lender.systems.items i j x None other)) refl
                  (get_other lender.totals.items i j w other) (assumption) (far.members j below))
            ];
            world = far.world;
            whole = far.whole;
            types = far.types;
            resources = far.resources;
          };
      systems = grind (arith, length-set);
      totals = grind (arith, length-set);
      accesses = inv.accesses;
      world = inv.world;
    }

pub returns-clause-joined : goal.returns-clause-joined
returns-clause-joined g c s stands joins fresh =
    members_alike g.S.SystemOf.meaning c.loop-i.lender (joined_below c.loop-i.i c.args.frame s)
    (with_joining c.args.frame s).members
    (λ j lt. grind (arith, nat_tests))
    (c.loop-i.invariant.so_far s stands joins fresh)
