-- `put_names` meets its contract: after i turns the words of the first i names stand over the front of what was lent.
use mathlib.Core.Path.{refl, sym, ap, ◌∙◌}
use Prim.Native.Nat.{◌*◌}
use native.Mathlib.Omega.{arith}
use borrow.Author.Rules.{rules}
use lib.Seq.{take_all}
use Rattle.laws.specs.Lists.{gather}
use Rattle.laws.specs.Parts.{front}
use Rattle.laws.proofs.Lists.{all_at, mem_get_or}
use Rattle.laws.proofs.Fronts.{front_nothing, lent_front, front_more}
use Rattle.blocks.specs.BookBlock.{name_words}
use Rattle.book_block.specs.Fits.{name_fits}
use Rattle.book_block.proofs.put_names.Goals as goal

pub loop-i-init : goal.loop-i-init
loop-i-init c = (search rules, search rules, sym (front_nothing _))

pub put_name-requires : goal.put_name-requires
put_name-requires c =
    (search rules, all_at name_fits c.requires.1 (mem_get_or c.args.names c.loop-i.i _ (omega arith)))

pub loop-i-preserved : goal.loop-i-preserved
loop-i-preserved c =
    let start = c.args in
    let i = c.loop-i.i in (
      search rules,
      search rules,
      lent_front (2 * i) _ c.loop-i.words (omega arith) c.put_name.ensures
          ∙ front_more name_words 2 start.names (λ x m. refl) i _ start.words.now (omega arith) (omega arith) refl c.loop-i.invariant.2,
    )

pub returns : goal.returns
returns c =
    let start = c.args in
    c.loop-i.invariant.2 ∙ ap (λ r. front (gather name_words r) start.words.now) (take_all c.loop-i.i start.names (omega arith))
