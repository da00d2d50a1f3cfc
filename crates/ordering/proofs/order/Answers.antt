-- `ordering::order` meets its contract: by values, and where they do not differ by exclusions.
use mathlib.Core.Path.{◌∙◌}
use Rattle.disjunct.specs.Disjuncts.{view_disjunct}
use Rattle.disjunct.proofs.Slots.{order_by_values, order_by_exclusions}
use Rattle.ordering.proofs.order.Goals as goal

pub returns-in-Same : goal.returns-in-Same
returns-in-Same c =
    let v = c.values in
    c.exclusions.ensures ∙ order_by_exclusions (view_disjunct c.args.a) (view_disjunct c.args.b) v.result v.ensures c.in-Same.is

pub returns-in_default : goal.returns-in_default
returns-in_default c =
    let v = c.values in
    order_by_values (view_disjunct c.args.a) (view_disjunct c.args.b) v.result v.ensures c.in_default.not-Same
