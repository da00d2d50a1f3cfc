-- `positions_in` meets its contract: the words over the front of an array of zeros.
use mathlib.Core.Path.{sym, ap, ◌∙◌}
use native.Mathlib.Omega.{arith}
use lib.ListN.{take, length-take}
use lib.Seq.{length-take-le, take-take}
use Rattle.laws.specs.Parts.{pad}
use Rattle.state_block.proofs.Reading.{front_filled}
use Rattle.state_block.proofs.positions_in.Goals as goal

pub slice_bounds-copy-end : goal.slice_bounds-copy-end
slice_bounds-copy-end c =
    let a = c.args in
    sym (length-take-le a.n a.words.now (omega arith))

pub copy-requires : goal.copy-requires
copy-requires c =
    let a = c.args in
    omega (arith, length-take a.n a.words.now)

pub returns : goal.returns
returns c =
    let a = c.args in
    let w = a.words.now in
    c.copy.ensures ∙ front_filled 128 0 (take a.n w) ∙ ap (pad 128 0) (sym (take-take a.n 128 w (omega arith)))
