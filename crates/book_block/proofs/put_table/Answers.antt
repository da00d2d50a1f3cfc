-- `put_table` meets its contract: after i turns the words of the first i symbols stand over the front of what was lent.
use mathlib.Core.Path.{refl, sym, ap, ◌∙◌}
use Prim.Native.Nat.{◌*◌}
use native.Mathlib.Omega.{arith}
use borrow.Author.Rules.{rules}
use lib.Seq.{take_all}
use Rattle.laws.specs.Lists.{gather}
use Rattle.laws.specs.Parts.{front}
use Rattle.laws.proofs.Lists.{all_at, mem_get_or}
use Rattle.laws.proofs.Fronts.{front_nothing, lent_front, front_more}
use Rattle.blocks.specs.BookBlock.{symbol_words}
use Rattle.book_block.specs.Fits.{symbol_fits}
use Rattle.book_block.proofs.Sizes.{symbols_words}
use Rattle.book_block.proofs.put_table.Goals as goal

pub loop-i-init : goal.loop-i-init
loop-i-init c = (search rules, search rules, sym (front_nothing _))

pub put_symbol-requires : goal.put_symbol-requires
put_symbol-requires c =
    (search rules, all_at symbol_fits c.requires.1 (mem_get_or c.args.symbols c.loop-i.i _ (omega arith)))

pub loop-i-preserved : goal.loop-i-preserved
loop-i-preserved c =
    let start = c.args in
    let sizes = symbols_words 16 start.symbols c.well_formed.1.0 in
    let i = c.loop-i.i in (
      search rules,
      search rules,
      lent_front (10 * i) _ c.loop-i.words (omega arith) c.put_symbol.ensures
          ∙ front_more symbol_words 10 start.symbols sizes i _ start.words.now (omega arith) (omega arith) refl c.loop-i.invariant.2,
    )

pub returns : goal.returns
returns c =
    let start = c.args in
    c.loop-i.invariant.2 ∙ ap (λ r. front (gather symbol_words r) start.words.now) (take_all c.loop-i.i start.symbols (omega arith))
