-- `ordering::key` meets its contract: by the two kinds of entry.
use mathlib.Core.Path.{ap}
use Rattle.meaning.specs.Labels.{value_key}
use Rattle.slot.proofs.Slots.{view_bound, view_free}
use native.Mathlib.Omega.{arith}
use Rattle.ordering.proofs.key.Goals as goal

pub returns-then-a : goal.returns-then-a
returns-then-a c = omega (arith, ap value_key (view_bound c.args.a.now c.if-a.true))

pub returns-else-a : goal.returns-else-a
returns-else-a c = omega (arith, ap value_key (view_free c.args.a.now c.if-a.false))
