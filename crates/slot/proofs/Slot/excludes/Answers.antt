-- `Slot::excludes` meets its contract: the exclusions are the first elements of the array.
use mathlib.Core.Path.{◌≡◌, sym, ap, ◌∙◌}
use borrow.Author.Rules.{rules}
use lib.Dec.{eqb}
use lib.ListN.{take}
use Rattle.laws.specs.Lists.{any}
use Rattle.slot.proofs.Slots.{view_taken}
use Rattle.slot.proofs.Slot.excludes.Goals as goal

pub returns : goal.returns
returns c =
    let a = c.args in
    let z = c.size in
    let e : c.contains.result ≡ any (eqb a.x) (take z.result a.self.excluded) = search rules in
    e ∙ sym (ap (any (eqb a.x)) (view_taken a.self z.result z.ensures.0))
