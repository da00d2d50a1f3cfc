-- `handed::fresh` meets its contract: every number of the fresh state.
use mathlib.Core.Path.{◌∙◌}
use Rattle.promises.proofs.Said.{fresh_given}
use Rattle.handed.proofs.fresh.Goals as goal

pub returns : goal.returns
returns c = c.fresh.ensures ∙ fresh_given
