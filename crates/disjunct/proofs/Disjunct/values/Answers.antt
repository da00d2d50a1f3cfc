-- `Disjunct::values` meets its contract, value by value.
use mathlib.Core.Path.{◌≡◌, sym, ◌∙◌}
use mathlib.Core.Bool.{cond}
use native.Mathlib.Omega.{arith}
use borrow.Author.Rules.{rules}
use lib.ListN.{length, get_or, length-map}
use Rattle.std.proofs.Common.{tests}
use Rattle.std.proofs.lemmas.Grind.{same_number_lists}
use Rattle.meaning.specs.Rows.{value_of, valuation_of}
use Rattle.disjunct.specs.Disjuncts.{view_disjunct}
use Rattle.disjunct.proofs.Disjuncts.{view_length, sized}
use Rattle.disjunct.proofs.Slots.{no_slot, key_at, value_slot}
use Rattle.disjunct.proofs.Disjunct.values.Goals as goal

pub returns : goal.returns
returns c =
    let d = c.args.self in
    let m = c.map in
    let v = valuation_of (view_disjunct d) in
    let n : length v ≡ 4 = length-map (view_disjunct d) value_of ∙ view_length d (sized d c.well_formed.0).four in
    same_number_lists m.result v (m.ensures.items.long ∙ sym n) λ k h.
    let x = get_or d.vars k no_slot in
    let called = (m.ensures.items.at k no_slot 0 (omega arith)).2 in
    let e : get_or m.result k 0 ≡ cond x.bound x.value 0 = search (rules, tests) in
    e ∙ value_slot x ∙ sym (key_at value_of d k)
