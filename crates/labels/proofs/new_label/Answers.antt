-- `labels::new_label` meets its contract: by whether there is room for the step set and for the skip set, and whether anything follows.
use mathlib.Core.Path.{ap, ◌∙◌}
use mathlib.Core.List.{List, map}
use lib.ListN.{take}
use Rattle.meaning.specs.Events as Events
use Rattle.bounded.specs.Bounded.{skipped_through}
use Rattle.demand.specs.Constraints.{view_constraint}
use Rattle.packed.specs.Sets.{disjuncts_in, grown_in}
use Rattle.labels.proofs.Labels.{step_ascending, step_over, skip_over, label_none, label_joined}
use Rattle.labels.proofs.new_label.Goals as goal

pub returns-in_err-m-clause-set : goal.returns-in_err-m-clause-set
returns-in_err-m-clause-set c =
    let a = c.args in
    let q = a.q in
    ap (λ r. grown_in r c.step_set.new.out) c.from_residual.ensures
    ∙ step_over (view_constraint q.constraint) (map view_constraint (take a.count a.cs)) q.begins q.number (take a.n a.at.now) (take a.n a.masks.now)
    (take a.n (disjuncts_in a.held.now)) _ c.in_err-m.ensures.set

-- the skip set is that of the old label
pub returns-in_err-j-clause-set : goal.returns-in_err-j-clause-set
returns-in_err-j-clause-set c =
    let a = c.args in
    let q = a.q in
    let constraints : List Events.Constraint = map view_constraint (take a.count a.cs) in
    ap (λ r. grown_in r c.step_set.new.out) c.from_residual-in_err-j.ensures
    ∙ skip_over (view_constraint q.constraint) constraints q.begins q.number (take a.n a.at.now) (take a.n a.masks.now)
    (take a.n (disjuncts_in a.held.now)) _ (c.in_err-j.ensures.set ∙ ap (skipped_through constraints) c.label-k.ensures.1)

pub returns-then-q-eq0-clause-set : goal.returns-then-q-eq0-clause-set
returns-then-q-eq0-clause-set c =
    let a = c.args in
    let q = a.q in
    let constraints : List Events.Constraint = map view_constraint (take a.count a.cs) in
    label_none (view_constraint q.constraint) constraints q.begins q.number (take a.n a.at.now) (take a.n a.masks.now)
    (take a.n (disjuncts_in a.held.now)) (take c.in_ok-m.m (disjuncts_in c.step_set.new.out)) (take c.in_ok-j.j (disjuncts_in c.skip_through.new.words))
    c.in_ok-m.ensures.set (c.in_ok-j.ensures.set ∙ ap (skipped_through constraints) c.label-k.ensures.1) q.follows c.if-q-eq0.true

pub join-requires : goal.join-requires
join-requires c =
    (c.in_ok-m.ensures.few, c.in_ok-j.ensures.few, step_ascending _ _ (take c.in_ok-m.m (disjuncts_in c.step_set.new.out)) c.in_ok-m.ensures.set)

pub returns-clause-set : goal.returns-clause-set
returns-clause-set c =
    let a = c.args in
    let q = a.q in
    let constraints : List Events.Constraint = map view_constraint (take a.count a.cs) in
    label_joined (view_constraint q.constraint) constraints q.begins q.number (take a.n a.at.now) (take a.n a.masks.now)
    (take a.n (disjuncts_in a.held.now)) (take c.in_ok-m.m (disjuncts_in c.step_set.new.out)) (take c.in_ok-j.j (disjuncts_in c.skip_through.new.words))
    c.in_ok-m.ensures.set (c.in_ok-j.ensures.set ∙ ap (skipped_through constraints) c.label-k.ensures.1) q.follows
    (grown_in c.join.result c.join.new.words) c.if-q-eq0.false c.join.ensures.set
