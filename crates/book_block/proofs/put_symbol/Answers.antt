-- `put_symbol` meets its contract: kind and count over the first two words, the parameters right behind them.
use mathlib.Core.Path.{◌≡◌, refl, ap, ◌∙◌}
use mathlib.Core.List.{[], ◌∷◌}
use Prim.Native.Nat.{◌*◌}
use native.Mathlib.Omega.{arith}
use borrow.Author.Rules.{rules}
use lib.Seq.{sets-eq}
use lib.ListN.{length, set, length-set, length-take, length-drop}
use Rattle.laws.specs.Lists.{gather}
use Rattle.laws.specs.Parts.{front, splice}
use Rattle.laws.proofs.Arrays.{map_length}
use Rattle.laws.proofs.Fronts.{lent_front, front_append, gather_length}
use Rattle.blocks.specs.BookBlock.{parameter_words}
use Rattle.book_block.proofs.Splits.{symbol_number}
use Rattle.book_block.proofs.put_symbol.Goals as goal

pub overflow_cast-words : goal.overflow_cast-words
overflow_cast-words c = omega (arith, symbol_number c.args.y c.requires.1)

pub bounds-words-1 : goal.bounds-words-1
bounds-words-1 c = simp length-set (omega arith)

pub slice_bounds-put_parameters-count : goal.slice_bounds-put_parameters-count
slice_bounds-put_parameters-count c = simp length-set (omega arith)

pub slice_bounds-put_parameters-start : goal.slice_bounds-put_parameters-start
slice_bounds-put_parameters-start c = simp length-set (omega arith)

pub put_parameters-requires : goal.put_parameters-requires
put_parameters-requires c = simp (length-take, length-drop, length-set) (omega arith)

pub shape_of-words : goal.shape_of-words
shape_of-words c =
    let y = c.args.y in
    let l = c.args.words.now in
    let e : length (set (set l 0 y.kind) 1 y.count) ≡ length l = simp length-set in
    omega arith

pub returns : goal.returns
unfolding front
returns c =
    let y = c.args.y in
    let l = c.args.words.now in
    let long : length y.parameters ≡ 4 = search (rules, map_length) in
    let ps = gather parameter_words y.parameters in
    let size : length ps ≡ 8 = gather_length parameter_words 2 y.parameters (λ p m. refl) ∙ ap (λ n. n * 2) long in
    let first : set (set l 0 y.kind) 1 y.count ≡ front (y.kind ∷ y.count ∷ []) l = sets-eq (y.kind ∷ y.count ∷ []) l 0 (omega arith) in
    lent_front 2 ps (set (set l 0 y.kind) 1 y.count) (simp length-set (omega arith)) c.put_parameters.ensures
    ∙ ap (splice 2 ps) first ∙ front_append (y.kind ∷ y.count ∷ []) ps l 2 refl (omega arith)
