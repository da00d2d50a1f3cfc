-- `sound::sound_pattern` meets its contract: the empty word, the number of positions, then masks and occurrences.
use Rattle.std.proofs.Common.{◌≡◌, ◌&&◌, ◌≤◌, leb, ltb, take, Bool, true, false, not, ℕ, refl, sym, ap, ◌∙◌, rules, tests}
use Rattle.std.proofs.lemmas.Iterator.{YieldsList-from_slice}
use Rattle.std.proofs.lemmas.Iterator.Search.{all_from_yields_List}
use Rattle.laws.specs.Lists.{all}
use Rattle.meaning.specs.Book.{sound_mask}
use Rattle.sound.proofs.Loops.{all_told, both_second, both_first}
use Rattle.sound.proofs.Parts.{pattern_told}
use Rattle.sound.proofs.sound_pattern.Goals as goal
use Rattle.sound.proofs.sound_pattern.Goals.{then-not-b, else-not-b, then-contains, else-contains, then-sound_mask, else-sound_mask, then-sound_mask-2, else-sound_mask-2}

pub returns-then-all : goal.returns-then-all
returns-then-all c =
    let b = c.args.b in
    let n = b.positions in
    let occurs = λ (a : ℕ). ltb a b.symbols in
    let first : c.if-not-b.value ≡ (not b.empty && (leb 1 n && leb n 31)) =
    elim c.if-not-b.branch [
      | then-not-b w ↦ both_second {u = not b.empty} {r = w.contains.result} {b = leb 1 n && leb n 31} refl (search (rules, tests)) w.value-is (search (rules, tests))
      | else-not-b w ↦ both_first (leb 1 n && leb n 31) refl (search (rules, tests)) w.value-is
    ] in
    let second : c.if-contains.value ≡ (not b.empty && (leb 1 n && leb n 31) && sound_mask n b.begins) =
    elim c.if-contains.branch [
      | then-contains w ↦ both_second first w.if-contains.true w.value-is w.sound_mask.ensures
      | else-contains w ↦ both_first (sound_mask n b.begins) first w.if-contains.false w.value-is
    ] in
    let third : c.if-sound_mask.value ≡ (not b.empty && (leb 1 n && leb n 31) && sound_mask n b.begins && sound_mask n b.ends) =
    elim c.if-sound_mask.branch [
      | then-sound_mask w ↦ both_second second w.if-sound_mask.true w.value-is w.sound_mask-then-sound_mask.ensures
      | else-sound_mask w ↦ both_first (sound_mask n b.ends) second w.if-sound_mask.false w.value-is
    ] in
    let fourth : c.if-sound_mask-2.value ≡ (not b.empty && (leb 1 n && leb n 31) && sound_mask n b.begins && sound_mask n b.ends && all occurs (take n b.occurrences)) =
    elim c.if-sound_mask-2.branch [
      | then-sound_mask-2 w ↦ both_second third w.if-sound_mask-2.true w.value-is (all_from_yields_List occurs _ _ w.all.result w.all.ensures.ran (YieldsList-from_slice (take n b.occurrences) cc) (λ x b q k. search (rules, tests)) ∙ all_told occurs (take n b.occurrences))
      | else-sound_mask-2 w ↦ both_first (all occurs (take n b.occurrences)) third w.if-sound_mask-2.false w.value-is
    ] in
    let e : c.all-then-all.result ≡ all (sound_mask n) (take n b.follows) = all_from_yields_List (sound_mask n) _ _ c.all-then-all.result c.all-then-all.ensures.ran (YieldsList-from_slice (take n b.follows) cc) (λ x b q k. search (rules, tests)) ∙ all_told (sound_mask n) (take n b.follows) in
    both_second fourth c.if-all.true refl e ∙ sym (pattern_told b)

pub returns-else-all : goal.returns-else-all
returns-else-all c =
    let b = c.args.b in
    let n = b.positions in
    let occurs = λ (a : ℕ). ltb a b.symbols in
    let first : c.if-not-b.value ≡ (not b.empty && (leb 1 n && leb n 31)) =
    elim c.if-not-b.branch [
      | then-not-b w ↦ both_second {u = not b.empty} {r = w.contains.result} {b = leb 1 n && leb n 31} refl (search (rules, tests)) w.value-is (search (rules, tests))
      | else-not-b w ↦ both_first (leb 1 n && leb n 31) refl (search (rules, tests)) w.value-is
    ] in
    let second : c.if-contains.value ≡ (not b.empty && (leb 1 n && leb n 31) && sound_mask n b.begins) =
    elim c.if-contains.branch [
      | then-contains w ↦ both_second first w.if-contains.true w.value-is w.sound_mask.ensures
      | else-contains w ↦ both_first (sound_mask n b.begins) first w.if-contains.false w.value-is
    ] in
    let third : c.if-sound_mask.value ≡ (not b.empty && (leb 1 n && leb n 31) && sound_mask n b.begins && sound_mask n b.ends) =
    elim c.if-sound_mask.branch [
      | then-sound_mask w ↦ both_second second w.if-sound_mask.true w.value-is w.sound_mask-then-sound_mask.ensures
      | else-sound_mask w ↦ both_first (sound_mask n b.ends) second w.if-sound_mask.false w.value-is
    ] in
    let fourth : c.if-sound_mask-2.value ≡ (not b.empty && (leb 1 n && leb n 31) && sound_mask n b.begins && sound_mask n b.ends && all occurs (take n b.occurrences)) =
    elim c.if-sound_mask-2.branch [
      | then-sound_mask-2 w ↦ both_second third w.if-sound_mask-2.true w.value-is (all_from_yields_List occurs _ _ w.all.result w.all.ensures.ran (YieldsList-from_slice (take n b.occurrences) cc) (λ x b q k. search (rules, tests)) ∙ all_told occurs (take n b.occurrences))
      | else-sound_mask-2 w ↦ both_first (all occurs (take n b.occurrences)) third w.if-sound_mask-2.false w.value-is
    ] in
    both_first (all (sound_mask n) (take n b.follows)) fourth c.if-all.false refl ∙ sym (pattern_told b)
