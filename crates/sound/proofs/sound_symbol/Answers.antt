-- `sound::sound_symbol` meets its contract: its count, its kind, and its places one by one.
use Rattle.std.proofs.Common.{◌≡◌, ◌&&◌, ◌≤◌, leb, take, Bool, true, false, refl, sym, ap, ap₂, ◌∙◌, rules, tests}
use Rattle.std.proofs.lemmas.Iterator.{YieldsList-from_slice}
use Rattle.std.proofs.lemmas.Iterator.Search.{all_from_yields_List}
use borrow.Author.Tests.{le-leb, lt-leb}
use Rattle.laws.specs.Lists.{all}
use Rattle.sound.specs.Tests.{symbol_sound}
use Rattle.sound.proofs.Loops.{all_told, both_second, both_first}
use Rattle.sound.proofs.Parts.{symbol_told, one_parameter}
use Rattle.sound.proofs.sound_symbol.Goals as goal
use Rattle.sound.proofs.sound_symbol.Goals.{After-all, Else-contains, then-y-le-PARAMETERS, else-y-le-PARAMETERS}

pub returns-then-contains : goal.returns-then-contains
returns-then-contains c =
    let a = c.args in
    let y = a.y in
    let f = one_parameter a.variables in
    let ps = take y.count y.parameters in
    let first : c.if-y-le-PARAMETERS.value ≡ (leb y.count 4 && (leb 1 y.kind && leb y.kind 255)) =
    elim c.if-y-le-PARAMETERS.branch [
      | then-y-le-PARAMETERS w ↦ both_second refl (le-leb _ _ w.if-y-le-PARAMETERS.true) w.value-is (search (rules, tests))
      | else-y-le-PARAMETERS w ↦ both_first (leb 1 y.kind && leb y.kind 255) refl (lt-leb _ _ w.if-y-le-PARAMETERS.false) w.value-is
    ] in
    let e : c.all.result ≡ all f ps = all_from_yields_List f _ _ c.all.result c.all.ensures.ran (YieldsList-from_slice ps cc) (λ x b q k. search (rules, tests)) ∙ all_told f ps in
    both_second first c.if-contains.true refl e ∙ sym (symbol_told a.variables y)

pub returns-else-contains : goal.returns-else-contains
returns-else-contains c =
    let a = c.args in
    let y = a.y in
    let first : c.if-y-le-PARAMETERS.value ≡ (leb y.count 4 && (leb 1 y.kind && leb y.kind 255)) =
    elim c.if-y-le-PARAMETERS.branch [
      | then-y-le-PARAMETERS w ↦ both_second refl (le-leb _ _ w.if-y-le-PARAMETERS.true) w.value-is (search (rules, tests))
      | else-y-le-PARAMETERS w ↦ both_first (leb 1 y.kind && leb y.kind 255) refl (lt-leb _ _ w.if-y-le-PARAMETERS.false) w.value-is
    ] in
    both_first (all (one_parameter a.variables) (take y.count y.parameters)) first c.if-contains.false refl ∙ sym (symbol_told a.variables y)
