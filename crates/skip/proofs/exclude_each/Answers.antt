-- `skip::exclude_each` meets its contract. The loop's invariant: the set that is wanted is that of the first m and of what the demands left give.
use mathlib.Core.Path.{◌≡◌, refl, sym, ap, ◌∙◌}
use native.Mathlib.Omega.{arith}
use borrow.Author.Rules.{rules}
use Prim.Native.Nat.{◌≤◌}
use lib.ListN.{length}
use Rattle.demand.proofs.Views.{demand_below}
use Rattle.disjunct.specs.Disjuncts.{view_disjunct}
use Rattle.packed.specs.Sets.{grown_in}
use Rattle.skip.proofs.Demands.{excluding_all, excluding_passed, excluding_seventh, excluding_full, excluding_more}
use Rattle.skip.proofs.exclude_each.Goals as goal
use Rattle.skip.proofs.exclude_each.Goals.{then-is_free+in-Ok+in_ok-m, else-is_free}

pub loop-i-init : goal.loop-i-init
loop-i-init c = record { few = c.requires.0; ordered = c.requires.3; same = refl }

pub is_free-requires : goal.is_free-requires
is_free-requires c = demand_below c.args.c c.requires.1 (search rules) c.loop-i.i c.loop-i-test.true

pub exclude-requires : goal.exclude-requires
exclude-requires c = demand_below c.args.c c.requires.1 (search rules) c.loop-i.i c.loop-i-test.true

pub returns-in_default-clause-set : goal.returns-in_default-clause-set
returns-in_default-clause-set c =
    let long : length c.args.c.demands ≡ 4 = search rules in
    excluding_seventh c.loop-i.invariant c.loop-i-test.true (omega (arith, c.requires.1.few)) c.requires.2 (sym c.is_free.ensures ∙ c.if-is_free.true)
    (sym c.in_default.ensures.room)

pub returns-in_err-m-clause-set : goal.returns-in_err-m-clause-set
returns-in_err-m-clause-set c =
    let long : length c.args.c.demands ≡ 4 = search rules in
    ap (λ r. grown_in r c.insert.new.words) c.from_residual.ensures
    ∙ excluding_full c.loop-i.invariant c.loop-i-test.true (omega (arith, c.requires.1.few)) c.requires.2 (sym c.is_free.ensures ∙ c.if-is_free.true)
    (view_disjunct c.in-Ok.e) (sym c.in-Ok.ensures.room) c.in-Ok.ensures.excluded c.in_err-m.ensures.set

pub loop-i-preserved : goal.loop-i-preserved
loop-i-preserved c =
    let long : length c.args.c.demands ≡ 4 = search rules in
    let test = c.loop-i-test.true in
    let free = c.is_free.ensures in
    let l = c.loop-i in
    let few = c.requires.2 in
    let counted : c.args.c.count ≤ length c.args.c.demands = omega (arith, c.requires.1.few) in
    elim c.if-is_free.branch [
      | then-is_free+in-Ok+in_ok-m w ↦ rw (w.out-is, w.m-is)
          (excluding_more l.invariant test counted few (sym free ∙ w.if-is_free.true)
          (view_disjunct w.in-Ok.e) (sym w.in-Ok.ensures.room) w.in-Ok.ensures.excluded w.insert.new.words w.in_ok-m.m
          w.in_ok-m.ensures.few w.in_ok-m.ensures.set)
      | else-is_free w ↦ rw (w.out-is, w.m-is) (excluding_passed l.invariant test counted few (sym free ∙ w.if-is_free.false))
    ]

pub returns-clause-set : goal.returns-clause-set
returns-clause-set c = excluding_all c.loop-i.invariant c.loop-i-test.false
