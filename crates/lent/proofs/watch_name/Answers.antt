-- `watch_name` meets its contract: the declaring place that the reader tells.
use mathlib.Core.Path.{ap}
use Rattle.lent.proofs.watch_name.Goals as goal

pub returns : goal.returns
returns c = (ap (λ x. x.start) c.name_place-x.ensures, ap (λ x. x.size) c.name_place-x.ensures)
