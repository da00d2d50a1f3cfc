-- `ordering::exclusions` meets its contract: what is compared from variable i on compares as all of it does.
use mathlib.Core.Path.{◌≡◌, sym, ap, ◌∙◌}
use Prim.Native.Nat.{compare}
use borrow.Author.Rules.{rules}
use lib.ListN.{length}
use Rattle.laws.specs.Order.{lex}
use Rattle.meaning.specs.Labels.{exclusions}
use Rattle.slot.specs.Slots.{rank}
use Rattle.disjunct.proofs.Slots.{from_differs, from_same, from_end}
use Rattle.ordering.proofs.exclusions.Goals as goal

pub returns-in_default : goal.returns-in_default
returns-in_default c =
    let a = c.args.a in
    let b = c.args.b in
    let n : length a.vars ≡ 4 = search rules in
    let m : length b.vars ≡ 4 = search rules in
    let r = c.slot_exclusions in
    from_differs (lex compare) exclusions a b n m c.loop-i.i r.result c.loop-i-test.true r.ensures c.in_default.not-Same
    ∙ ap rank c.loop-i.invariant

pub loop-i-preserved : goal.loop-i-preserved
loop-i-preserved c =
    let a = c.args.a in
    let b = c.args.b in
    let n : length a.vars ≡ 4 = search rules in
    let m : length b.vars ≡ 4 = search rules in
    let r = c.slot_exclusions in
    from_same (lex compare) exclusions a b n m c.loop-i.i r.result c.loop-i-test.true r.ensures c.in-Same.is ∙ c.loop-i.invariant

pub returns : goal.returns
returns c =
    let a = c.args.a in
    let b = c.args.b in
    let n : length a.vars ≡ 4 = search rules in
    let m : length b.vars ≡ 4 = search rules in
    ap rank (sym (from_end (lex compare) exclusions a b n m c.loop-i.i c.loop-i-test.false) ∙ c.loop-i.invariant)
