-- `constraint::agrees_from` meets its contract: the demands from j on decide, as long as those passed agree.
use mathlib.Core.Path.{◌≡◌, sym, ap₂, ◌∙◌}
use mathlib.Core.Bool.{Bool, true, false, ◌&&◌}
use Prim.Native.Nat.{◌+◌, suc}
use native.Mathlib.Numerals.{add-one}
use borrow.Author.Rules.{rules}
use lib.ListN.{length, get_or}
use Rattle.laws.proofs.Arrays.{map_length}
use Rattle.meaning.specs.Events as Events
use Rattle.demand.specs.Constraints.{view_demand, demands_in, no_demand}
use Rattle.demand.proofs.Views.{empty_demand, demand_at}
use Rattle.constraint.proofs.Steps.{unequal, equal, apart, agrees_from, agrees_next, agrees_none}
use Rattle.constraint.proofs.agrees_from.Goals as goal
use Rattle.constraint.proofs.agrees_from.Goals.{else-x-d-via-then-x-d+else-x-d-2, else-x-d-via-else-x-d}

pub loop-j-init : goal.loop-j-init
loop-j-init c =
    let long : length c.args.c.demands ≡ 4 = search (rules, map_length) in
    let a = c.args in
    let p = c.requires in
    sym (ap₂ (agrees_from a.c) (demand_at a.c long p.0.few a.i p.1) (sym (add-one a.i)))

pub returns-then-x-d-2 : goal.returns-then-x-d-2
returns-then-x-d-2 c =
    let kept : Events.Demand = let a = c.args in view_demand (get_or a.c.demands a.i empty_demand) in
    let met : Events.Demand = view_demand (get_or c.args.c.demands c.loop-j.j empty_demand) in
    let long : length c.args.c.demands ≡ 4 = search (rules, map_length) in
    let next : (b : Bool) → Events.compatible kept met ≡ b → let a = c.args in
    (b && agrees_from a.c kept (c.loop-j.j + 1)) ≡ agrees_from a.c (get_or (demands_in a.c) a.i no_demand) (suc a.i) = λ b e. let l = c.loop-j in
    sym (agrees_next c.args.c long c.requires.0.few kept l.j b c.loop-j-test.true e) ∙ l.invariant in
    next false (unequal kept met c.if-x-d.true c.if-x-d-2.true)

pub loop-j-preserved : goal.loop-j-preserved
loop-j-preserved c =
    let kept : Events.Demand = let a = c.args in view_demand (get_or a.c.demands a.i empty_demand) in
    let met : Events.Demand = view_demand (get_or c.args.c.demands c.loop-j.j empty_demand) in
    let long : length c.args.c.demands ≡ 4 = search (rules, map_length) in
    let next : (b : Bool) → Events.compatible kept met ≡ b → let a = c.args in
    (b && agrees_from a.c kept (c.loop-j.j + 1)) ≡ agrees_from a.c (get_or (demands_in a.c) a.i no_demand) (suc a.i) = λ b e. let l = c.loop-j in
    sym (agrees_next c.args.c long c.requires.0.few kept l.j b c.loop-j-test.true e) ∙ l.invariant in
    elim c.else-x-d.branch [
      | else-x-d-via-then-x-d+else-x-d-2 w ↦ next true (equal kept met w.if-x-d-2.false)
      | else-x-d-via-else-x-d w ↦ next true (apart kept met w.if-x-d.false)
    ]

pub returns : goal.returns
returns c =
    let long : length c.args.c.demands ≡ 4 = search (rules, map_length) in
    let l = c.loop-j in
    sym (agrees_none c.args.c long c.requires.0.few _ l.j c.loop-j-test.false) ∙ l.invariant
