-- `Slot::insertion_point` meets its contract: the first number that is not before x.
use mathlib.Core.Path.{◌≡◌, sym, ap, ◌∙◌}
use mathlib.Core.Bool.{cond}
use native.Mathlib.Omega.{arith}
use borrow.Author.Rules.{rules}
use lib.Dec.{leb, ltb}
use lib.ListN.{length, take}
use lib.Seq.{length-take-le}
use Rattle.std.proofs.Common.{tests, Some, None}
use Rattle.std.specs.List.{position_or_len}
use Rattle.std.proofs.lemmas.Iterator.{YieldsList-from_slice}
use Rattle.std.proofs.lemmas.Iterator.Search.{position_from_yields_List}
use Rattle.slot.specs.Slots.{smaller}
use Rattle.slot.proofs.Slots.{view_taken}
use Rattle.slot.proofs.Insertions.{smaller_few, first_from}
use Rattle.slot.proofs.Slot.insertion_point.Goals as goal

pub returns : goal.returns
returns c =
    let a = c.args in
    let z = c.size-n in
    let xs = take z.result a.self.excluded in
    let l : length a.self.excluded ≡ 6 = search rules in
    let e : c.position.result ≡ cond (ltb (position_or_len (λ y. leb a.x y) xs) (length xs)) (Some (position_or_len (λ y. leb a.x y) xs)) None =
    position_from_yields_List (λ y. leb a.x y) _ _ _ c.position.ensures.ran (YieldsList-from_slice xs cc) (λ x b q k. search (rules, tests)) in
    let n = length-take-le z.result a.self.excluded (omega arith) in
    let p = c.unwrap_or.ensures ∙ first_from a.x z.result xs c.position.result n e in
    (p ∙ sym (ap (smaller a.x) (view_taken a.self z.result z.ensures.0)), omega (arith, smaller_few a.x xs))
