-- `Slot::admits` meets its contract: by the two kinds of entry.
use mathlib.Core.Path.{sym, ap, ◌∙◌}
use mathlib.Core.Bool.{not}
use Rattle.meaning.specs.Labels.{admits}
use Rattle.slot.proofs.Slots.{view_bound}
use Rattle.slot.proofs.Excluding.{admits_free}
use Rattle.slot.proofs.Slot.admits.Goals as goal

pub returns-then-self : goal.returns-then-self
returns-then-self c = let a = c.args in sym (ap (λ e. admits e a.x) (view_bound a.self c.if-self.true))

pub returns-else-self : goal.returns-else-self
returns-else-self c = let a = c.args in ap not c.excludes.ensures ∙ admits_free a.self a.x c.if-self.false
