-- `constraint::fixed_agree` meets its contract: the places from i on decide, as long as those passed have their arguments.
use mathlib.Core.Path.{◌≡◌}
use Rattle.meaning.specs.Events as Events
use Rattle.table.specs.Tables.{view_symbol}
use Rattle.record.specs.Records.{view_event}
use Rattle.constraint.proofs.Steps.{fixed_from}
use Rattle.constraint.proofs.fixed_agree.Given as goal

abbrev pub invariant-loop-i : goal.invariant-loop-i
invariant-loop-i l = fixed_from l.y l.e l.i ≡ Events.fixed_all (view_symbol l.y).parameters (view_event l.e).args
