-- `ordering::slot_exclusions` meets its contract. The loop's invariant: the lists compare as what is ahead of them does.
use mathlib.Core.Path.{◌≡◌, sym, ap, ap₂, ◌∙◌}
use Prim.Native.Nat.{compare}
use native.Mathlib.Omega.{arith}
use borrow.Author.Rules.{rules}
use lib.ListN.{length, get_or}
use Rattle.laws.specs.Order.{lex}
use Rattle.slot.specs.Slots.{rank}
use Rattle.slot.proofs.Slots.{view_taken, then_first, then_second}
use Rattle.slot.proofs.Insertions.{lex_first, lex_sizes}
use Rattle.ordering.proofs.slot_exclusions.Goals as goal

pub returns-in_default : goal.returns-in_default
returns-in_default c =
    let a = c.args.a.now in
    let b = c.args.b.now in
    let i = c.loop-i.i in
    let y = c.size-m in
    let z = c.size-n in
    let m : length a.excluded ≡ 6 = search rules in
    let n : length b.excluded ≡ 6 = search rules in
    let p = compare (get_or a.excluded i 0) (get_or b.excluded i 0) in
    let o : c.of.result ≡ rank p = c.of.ensures ∙ ap₂ (λ u v. rank (compare u v)) c.from.ensures c.from-in-loop-i.ensures in
    let whole = ap₂ (lex compare) (view_taken a y.result y.ensures.0) (view_taken b z.result z.ensures.0) ∙ c.loop-i.invariant in
    let first = lex_first a.excluded b.excluded y.result z.result i (omega arith) (omega arith) (omega arith) (omega arith) in
    o ∙ sym (ap rank (whole ∙ first) ∙ then_first p _ (λ s. c.in_default.not-Same (o ∙ s)))

pub loop-i-preserved : goal.loop-i-preserved
loop-i-preserved c =
    let a = c.args.a.now in
    let b = c.args.b.now in
    let i = c.loop-i.i in
    let y = c.size-m in
    let z = c.size-n in
    let m : length a.excluded ≡ 6 = search rules in
    let n : length b.excluded ≡ 6 = search rules in
    let p = compare (get_or a.excluded i 0) (get_or b.excluded i 0) in
    let o : c.of.result ≡ rank p = c.of.ensures ∙ ap₂ (λ u v. rank (compare u v)) c.from.ensures c.from-in-loop-i.ensures in
    let first = lex_first a.excluded b.excluded y.result z.result i (omega arith) (omega arith) (omega arith) (omega arith) in
    c.loop-i.invariant ∙ first ∙ then_second p _ (sym o ∙ c.in-Same.is)

pub returns : goal.returns
returns c =
    let a = c.args.a.now in
    let b = c.args.b.now in
    let y = c.size-m in
    let z = c.size-n in
    let m : length a.excluded ≡ 6 = search rules in
    let n : length b.excluded ≡ 6 = search rules in
    let whole = ap₂ (lex compare) (view_taken a y.result y.ensures.0) (view_taken b z.result z.ensures.0) ∙ c.loop-i.invariant in
    let sizes = lex_sizes a.excluded b.excluded y.result z.result c.loop-i.i (omega arith) (omega arith) (omega arith) in
    c.of-2.ensures ∙ sym (ap rank (whole ∙ sizes))
