-- `collect::add_position` meets its contract: the sources of a position that ends; nothing where it does not, or its constraint is false.
use mathlib.Core.Path.{◌≡◌, sym, ap, ◌∙◌}
use mathlib.Core.Bool.{cond}
use mathlib.Core.List.{[]}
use borrow.Author.Rules.{rules}
use lib.ListN.{take}
use Rattle.std.proofs.Common.{Some}
use Rattle.laws.specs.Bits.{bit}
use Rattle.bounded.specs.Bounded.{pick, with_start, rows_ascend, yield_with}
use Rattle.bounded.proofs.RowSets.{yield_append, yield_none, yield_never, yield_ascends}
use Rattle.demand.specs.Constraints.{view_constraint}
use Rattle.packed.specs.Sets.{disjuncts_in}
use Rattle.collect.specs.Yields.{yield_in}
use Rattle.collect.proofs.Turns.{start_before}
use Rattle.collect.proofs.add_position.Goals as goal

pub add_start-started-requires : goal.add_start-started-requires
add_start-started-requires c =
    let p = c.requires in
    (p.2, rw c.in-Some.is at p.3, p.4, p.5)

pub add_sources-requires : goal.add_sources-requires
add_sources-requires c =
    let a = c.args in
    let p = c.requires in
    let rises = yield_ascends a.v (view_constraint (Some c.in-Some.constraint)) (with_start c.has-2.result []) (yield_in a.found a.out.now) p.5 in
    (p.0, p.1, p.2, rw c.in-Some.is at p.3, c.add_start-started.ensures.few, ap (λ z. rows_ascend z.rows) c.add_start-started.ensures.gives ∙ rises)

pub returns-in_default-clause-gives : goal.returns-in_default-clause-gives
returns-in_default-clause-gives c =
    let a = c.args in
    let l = with_start (bit a.q a.begins) (pick (λ x. bit a.q x) (take a.n a.masks.now) (take a.n (disjuncts_in a.held.now))) in
    rw c.in_default.is (sym (yield_never a.v (cond (bit a.q a.ends) l []) (yield_in a.found a.out.now)))

pub returns-then-not-has-clause-gives : goal.returns-then-not-has-clause-gives
returns-then-not-has-clause-gives c =
    let a = c.args in
    let C = view_constraint a.c in
    let l = with_start (bit a.q a.begins) (pick (λ x. bit a.q x) (take a.n a.masks.now) (take a.n (disjuncts_in a.held.now))) in
    let y = yield_in a.found a.out.now in
    sym (ap (λ b. yield_with a.v C (cond b l []) y) (sym c.has.ensures ∙ c.if-not-has.true) ∙ yield_none a.v C y)

pub returns-clause-gives : goal.returns-clause-gives
returns-clause-gives c =
    let a = c.args in
    let C = view_constraint (Some c.in-Some.constraint) in
    let l = pick (λ x. bit a.q x) (take a.n a.masks.now) (take a.n (disjuncts_in a.held.now)) in
    let y = yield_in a.found a.out.now in
    let begins = c.has-2 in
    rw c.in-Some.is
    (c.add_sources.ensures.gives ∙ ap (yield_with a.v C l) c.add_start-started.ensures.gives ∙ sym (yield_append a.v C (with_start begins.result []) l y)
    ∙ ap (λ k. yield_with a.v C k y)
    (start_before begins.result l ∙ ap (λ b. with_start b l) begins.ensures
    ∙ ap (λ b. cond b (with_start (bit a.q a.begins) l) []) (sym c.if-not-has.false ∙ c.has.ensures)))
