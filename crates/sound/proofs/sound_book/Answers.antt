-- `sound::sound_book` meets its contract: variables and symbols in range, then the symbols, the names and the pattern.
use Rattle.std.proofs.Common.{◌≡◌, ◌&&◌, ◌≤◌, ◌+◌, leb, ltb, take, Bool, true, false, ℕ, refl, sym, ap, ◌∙◌, rules, tests}
use Rattle.std.proofs.lemmas.Iterator.{YieldsList-from_slice}
use Rattle.std.proofs.lemmas.Iterator.Search.{all_from_yields_List}
use borrow.Author.Tests.{le-leb, lt-leb}
use Rattle.laws.specs.Lists.{all}
use Rattle.sound.specs.Soundness.{name_placed}
use Rattle.sound.specs.Tests.{symbol_sound, pattern_sound}
use Rattle.sound.proofs.Loops.{all_told, both_second, both_first}
use Rattle.sound.proofs.Sizes.{book_sized}
use Rattle.sound.proofs.Parts.{book_told}
use Rattle.sound.proofs.sound_book.Goals as goal
use Rattle.sound.proofs.sound_book.Goals.{then-b-le-VARIABLES, else-b-le-VARIABLES, then-contains, else-contains, then-all, else-all}

pub returns-then-all-2 : goal.returns-then-all-2
returns-then-all-2 c =
    let b = c.args.b in
    let n = b.symbols in
    let declared = symbol_sound b.variables in
    let table = take n b.table in
    let names = take (b.variables + n) b.names in
    let first : c.if-b-le-VARIABLES.value ≡ (leb b.variables 4 && (leb 1 n && leb n 16)) =
    elim c.if-b-le-VARIABLES.branch [
      | then-b-le-VARIABLES w ↦ both_second refl (le-leb _ _ w.if-b-le-VARIABLES.true) w.value-is (search (rules, tests))
      | else-b-le-VARIABLES w ↦ both_first (leb 1 n && leb n 16) refl (lt-leb _ _ w.if-b-le-VARIABLES.false) w.value-is
    ] in
    let second : c.if-contains.value ≡ (leb b.variables 4 && (leb 1 n && leb n 16) && all declared table) =
    elim c.if-contains.branch [
      | then-contains w ↦ both_second first w.if-contains.true w.value-is (all_from_yields_List declared _ _ w.all.result w.all.ensures.ran (YieldsList-from_slice table cc) (λ x b q k. search (rules, tests)) ∙ all_told declared table)
      | else-contains w ↦ both_first (all declared table) first w.if-contains.false w.value-is
    ] in
    let third : c.if-all.value ≡ (leb b.variables 4 && (leb 1 n && leb n 16) && all declared table && all name_placed names) =
    elim c.if-all.branch [
      | then-all w ↦ both_second second w.if-all.true w.value-is (all_from_yields_List name_placed _ _ w.all-then-all.result w.all-then-all.ensures.ran (YieldsList-from_slice names cc) (λ x b q k. search (rules, tests)) ∙ all_told name_placed names)
      | else-all w ↦ both_first (all name_placed names) second w.if-all.false w.value-is
    ] in
    both_second third c.if-all-2.true refl c.sound_pattern.ensures ∙ sym (book_told b (book_sized b c.well_formed.0))

pub returns-else-all-2 : goal.returns-else-all-2
returns-else-all-2 c =
    let b = c.args.b in
    let n = b.symbols in
    let declared = symbol_sound b.variables in
    let table = take n b.table in
    let names = take (b.variables + n) b.names in
    let first : c.if-b-le-VARIABLES.value ≡ (leb b.variables 4 && (leb 1 n && leb n 16)) =
    elim c.if-b-le-VARIABLES.branch [
      | then-b-le-VARIABLES w ↦ both_second refl (le-leb _ _ w.if-b-le-VARIABLES.true) w.value-is (search (rules, tests))
      | else-b-le-VARIABLES w ↦ both_first (leb 1 n && leb n 16) refl (lt-leb _ _ w.if-b-le-VARIABLES.false) w.value-is
    ] in
    let second : c.if-contains.value ≡ (leb b.variables 4 && (leb 1 n && leb n 16) && all declared table) =
    elim c.if-contains.branch [
      | then-contains w ↦ both_second first w.if-contains.true w.value-is (all_from_yields_List declared _ _ w.all.result w.all.ensures.ran (YieldsList-from_slice table cc) (λ x b q k. search (rules, tests)) ∙ all_told declared table)
      | else-contains w ↦ both_first (all declared table) first w.if-contains.false w.value-is
    ] in
    let third : c.if-all.value ≡ (leb b.variables 4 && (leb 1 n && leb n 16) && all declared table && all name_placed names) =
    elim c.if-all.branch [
      | then-all w ↦ both_second second w.if-all.true w.value-is (all_from_yields_List name_placed _ _ w.all-then-all.result w.all-then-all.ensures.ran (YieldsList-from_slice names cc) (λ x b q k. search (rules, tests)) ∙ all_told name_placed names)
      | else-all w ↦ both_first (all name_placed names) second w.if-all.false w.value-is
    ] in
    both_first (pattern_sound b) third c.if-all-2.false refl ∙ sym (book_told b (book_sized b c.well_formed.0))
