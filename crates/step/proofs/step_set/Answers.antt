-- `step::step_set` meets its contract: the start's part, then the others; nothing where the constraint is false.
use mathlib.Core.Path.{◌≡◌, sym, ap, ◌∙◌}
use lib.ListN.{take}
use Rattle.std.proofs.Common.{Some, None}
use Rattle.laws.specs.Bits.{bit}
use Rattle.laws.specs.Sets.{within}
use Rattle.bounded.specs.Bounded.{pick, with_start, met_set}
use Rattle.demand.specs.Constraints.{view_constraint}
use Rattle.packed.specs.Sets.{disjuncts_in, grown_in}
use Rattle.step.proofs.Meetings.{grown_started, met_ascending, none_met}
use borrow.Author.Rules.{rules}
use Rattle.step.proofs.step_set.Goals as goal

pub add_sources-requires : goal.add_sources-requires
add_sources-requires c =
    let e = c.add_start-m.ensures in
    (c.requires.0, c.requires.1, search rules, e.0, met_ascending _ _ e.1)

pub returns-clause-set : goal.returns-clause-set
returns-clause-set c =
    let a = c.args in
    let e = c.add_start-m in
    let r = c.add_sources in
    rw c.in-Some.is
    (grown_started (view_constraint (Some c.in-Some.constraint)) a.begins
    (pick (λ m. bit a.q m) (take a.n a.masks.now) (take a.n (disjuncts_in a.held.now))) (take e.result (disjuncts_in e.new.out))
    (grown_in r.result r.new.out) e.ensures.1 r.ensures.set)

pub returns-in_default-clause-set : goal.returns-in_default-clause-set
returns-in_default-clause-set c =
    let a = c.args in
    let l = with_start a.begins (pick (λ m. bit a.q m) (take a.n a.masks.now) (take a.n (disjuncts_in a.held.now))) in
    rw c.in_default.is (sym (ap (within 128) (none_met l)))
