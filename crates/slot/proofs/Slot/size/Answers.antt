-- `Slot::size` meets its contract: what is taken of six numbers is at most six.
use mathlib.Core.Path.{◌≡◌, ap}
use borrow.Author.Rules.{rules}
use native.Mathlib.Omega.{arith}
use lib.ListN.{length}
use Rattle.meaning.specs.Labels.{exclusions}
use Rattle.slot.proofs.Slots.{view_bound, view_size}
use Rattle.slot.proofs.Slot.size.Goals as goal

pub returns-then-self : goal.returns-then-self
returns-then-self c = omega (arith, ap (λ x. length (exclusions x)) (view_bound c.args.self c.if-self.true))

pub returns-else-self : goal.returns-else-self
returns-else-self c =
    let s = c.args.self in
    let l : length s.excluded ≡ 6 = search rules in
    omega (arith, view_size s c.if-self.false)
