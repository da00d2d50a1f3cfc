-- `pool_in` meets its contract: after i turns the first i disjuncts are what their words say, the others free.
use mathlib.Core.Path.{◌≡◌, refl, ap, ◌∙◌}
use mathlib.Core.List.{[], map}
use Prim.Native.Nat.{◌+◌, ◌*◌}
use native.Mathlib.Omega.{arith}
use borrow.Author.Rules.{rules}
use lib.ListN.{take}
use Rattle.laws.specs.Parts.{pad}
use Rattle.disjunct.specs.Disjuncts.{disjunct_of}
use Rattle.blocks.specs.Groups.{groups}
use Rattle.blocks.specs.StateBlock.{disjunct_in}
use Rattle.state_block.proofs.Reading.{group_next, pool_none}
use Rattle.state_block.proofs.pool_in.Goals as goal

pub loop-i-init : goal.loop-i-init
loop-i-init c = (search rules, search rules, pool_none c.free-pool.result c.free-pool.ensures)

pub loop-i-preserved : goal.loop-i-preserved
loop-i-preserved c =
    let l = c.loop-i in
    let w = c.args.words.now in (
      search rules,
      search rules,
      group_next disjunct_in 28 128 (disjunct_of []) w l.i (28 * l.i + 28) (omega arith) refl l.invariant.2 c.disjunct_in.ensures,
    )

pub returns : goal.returns
returns c =
    let l = c.loop-i in
    let a = c.args in
    let e : l.i ≡ a.n = omega arith in
    l.invariant.2 ∙ ap (λ k. pad 128 (disjunct_of []) (take k (map disjunct_in (groups 28 128 a.words.now)))) e
