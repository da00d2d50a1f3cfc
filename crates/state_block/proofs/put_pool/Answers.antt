-- `put_pool` meets its contract: after i turns the groups of the first i places stand over the front of what was lent.
use mathlib.Core.Path.{◌≡◌, refl, sym, ap, ◌∙◌}
use mathlib.Core.List.{[]}
use Prim.Native.Nat.{◌*◌}
use native.Mathlib.Omega.{arith}
use borrow.Author.Rules.{rules}
use lib.ListN.{take, get_or}
use Rattle.laws.specs.Lists.{gather}
use Rattle.laws.specs.Parts.{front}
use Rattle.laws.proofs.Fronts.{front_nothing, lent_front, front_more}
use Rattle.disjunct.specs.declared.Disjunct.{Disjunct}
use Rattle.blocks.specs.StateBlock.{group_words}
use Rattle.state_block.proofs.Writing.{pool_sized}
use Rattle.state_block.proofs.put_pool.Goals as goal

pub loop-i-init : goal.loop-i-init
loop-i-init c = (search rules, search rules, sym (front_nothing _))

pub loop-i-preserved : goal.loop-i-preserved
loop-i-preserved c =
    let pool = c.args.pool in
    let i = c.loop-i.i in
    let z : Disjunct = record { vars = [] } in (
      search rules,
      search rules,
      lent_front (28 * i) (group_words (get_or pool i z)) c.loop-i.words (omega arith) c.put_group.ensures
          ∙ front_more group_words 28 pool (pool_sized pool c.well_formed.1.0.0 c.well_formed.1.0.1.1) i z c.args.words.now
          (omega arith) (omega arith) refl c.loop-i.invariant.2,
    )

pub returns : goal.returns
returns c =
    let a = c.args in
    let e : c.loop-i.i ≡ a.n = omega arith in
    c.loop-i.invariant.2 ∙ ap (λ k. front (gather group_words (take k a.pool)) a.words.now) e
