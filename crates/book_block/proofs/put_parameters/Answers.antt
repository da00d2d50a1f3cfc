-- `put_parameters` meets its contract: after i turns the words of the first i parameters stand over the front of what was lent.
use mathlib.Core.Path.{refl, sym, ap, ◌∙◌}
use Prim.Native.Nat.{◌*◌}
use native.Mathlib.Omega.{arith}
use borrow.Author.Rules.{rules}
use lib.Seq.{take_all}
use Rattle.laws.specs.Lists.{gather}
use Rattle.laws.specs.Parts.{front}
use Rattle.laws.proofs.Fronts.{front_nothing, lent_front, front_more}
use Rattle.blocks.specs.BookBlock.{parameter_words}
use Rattle.book_block.proofs.put_parameters.Goals as goal

pub loop-i-init : goal.loop-i-init
loop-i-init c = (search rules, search rules, sym (front_nothing _))

pub loop-i-preserved : goal.loop-i-preserved
loop-i-preserved c =
    let start = c.args in
    let i = c.loop-i.i in (
      search rules,
      search rules,
      lent_front (2 * i) _ c.loop-i.words (omega arith) c.put_parameter.ensures
          ∙ front_more parameter_words 2 start.parameters (λ x m. refl) i _ start.words.now (omega arith) (omega arith) refl c.loop-i.invariant.2,
    )

pub returns : goal.returns
returns c =
    let start = c.args in
    c.loop-i.invariant.2 ∙ ap (λ r. front (gather parameter_words r) start.words.now) (take_all c.loop-i.i start.parameters (omega arith))
