-- `write_rows` meets its contract: the part from the place on comes back with the rows over its front, which is the splice.
use native.Mathlib.Omega.{arith}
use lib.ListN.{take}
use Rattle.laws.specs.Lists.{gather}
use Rattle.rows.specs.Valuations.{valuations_in}
use Rattle.row.specs.RowBytes.{bytes_of, with_values}
use Rattle.laws.proofs.Fronts.{lent_front}
use Rattle.writer.proofs.write_rows.Goals as goal

pub returns : goal.returns
returns c =
    let start = c.args in
    let rows = gather (λ σ. bytes_of (with_values start.shared σ)) (take start.n (valuations_in start.words.now)) in
    lent_front start.place rows start.out.now (omega arith) c.put_rows.ensures
