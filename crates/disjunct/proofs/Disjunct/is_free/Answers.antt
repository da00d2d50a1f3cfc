-- `Disjunct::is_free` meets its contract: the flag of the slot against its entry.
use mathlib.Core.Path.{sym, ap, ◌∙◌}
use lib.ListN.{get_or}
use Rattle.meaning.specs.Labels.{is_free}
use Rattle.disjunct.proofs.Slots.{no_slot, entry_at, free_slot}
use Rattle.disjunct.proofs.Disjunct.is_free.Goals as goal

pub returns : goal.returns
returns c =
    let a = c.args in
    free_slot (get_or a.self.vars a.v no_slot) ∙ ap is_free (sym (entry_at a.self a.v))
