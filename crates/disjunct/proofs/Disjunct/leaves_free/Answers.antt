-- `Disjunct::leaves_free` meets its contract: the flags of the first n slots against their entries.
use mathlib.Core.Path.{sym, ap, ◌∙◌}
use mathlib.Core.Bool.{not}
use borrow.Author.Rules.{rules}
use lib.ListN.{take}
use Rattle.std.proofs.Common.{tests}
use Rattle.std.proofs.lemmas.Iterator.{YieldsList-from_slice}
use Rattle.std.proofs.lemmas.Iterator.Search.{any_from_yields_List}
use Rattle.laws.specs.Lists.{any}
use Rattle.laws.proofs.Maps.{take_map}
use Rattle.meaning.specs.Labels.{is_free}
use Rattle.slot.specs.Slots.{view_slot}
use Rattle.disjunct.specs.Disjuncts.{view_disjunct}
use Rattle.disjunct.proofs.Slots.{free_slots}
use Rattle.disjunct.proofs.Disjunct.leaves_free.Goals as goal

pub returns : goal.returns
unfolding view_disjunct
returns c =
    let a = c.args in
    let l = take a.n a.self.vars in
    any_from_yields_List (λ s. not s.bound) _ _ _ c.any.ensures.ran (YieldsList-from_slice l cc) (λ x b q k. search (rules, tests))
    ∙ free_slots l ∙ ap (any is_free) (sym (take_map view_slot a.n a.self.vars))
