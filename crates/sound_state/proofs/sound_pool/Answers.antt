-- `sound_state::sound_pool` meets its contract: the positions and disjuncts ahead tell what all tell.
use Rattle.std.proofs.Common.{◌≡◌, ◌&&◌, ◌∙◌, refl, ℕ, Bool, leb, take, rules, tests}
use Rattle.std.proofs.lemmas.Iterator.{YieldsList-from_slice}
use Rattle.std.proofs.lemmas.Iterator.Search.{all_from_yields_List}
use Rattle.laws.specs.Lists.{all}
use Rattle.sound.specs.Tests.{disjunct_sound, pool_sound}
use Rattle.sound.proofs.Loops.{all_told, both_second, both_first}
use Rattle.sound_state.proofs.sound_pool.Goals as goal

-- one position
abbrev in_range : ℕ → ℕ → Bool
in_range positions p = leb 1 p && leb p positions

pub returns-then-all : goal.returns-then-all
unfolding pool_sound
returns-then-all c =
    let a = c.args in
    let places = take a.s.count a.s.positions in
    let held = take a.s.count a.s.pool in
    let first : c.all.result ≡ all (in_range a.positions) places = all_from_yields_List (in_range a.positions) _ _ c.all.result c.all.ensures.ran (YieldsList-from_slice places cc) (λ x b q k. search (rules, tests)) ∙ all_told (in_range a.positions) places in
    let second : c.all-then-all.result ≡ all (disjunct_sound a.variables) held = all_from_yields_List (disjunct_sound a.variables) _ _ c.all-then-all.result c.all-then-all.ensures.ran (YieldsList-from_slice held cc) (λ x b q k. search (rules, tests)) ∙ all_told (disjunct_sound a.variables) held in
    both_second first c.if-all.true refl second

pub returns-else-all : goal.returns-else-all
unfolding pool_sound
returns-else-all c =
    let a = c.args in
    let places = take a.s.count a.s.positions in
    let held = take a.s.count a.s.pool in
    let first : c.all.result ≡ all (in_range a.positions) places = all_from_yields_List (in_range a.positions) _ _ c.all.result c.all.ensures.ran (YieldsList-from_slice places cc) (λ x b q k. search (rules, tests)) ∙ all_told (in_range a.positions) places in
    both_first (all (disjunct_sound a.variables) held) first c.if-all.false refl
