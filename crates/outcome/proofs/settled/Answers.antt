-- `outcome::settled` meets its contract: by the test for space; the fields that it hands to the writer are those of a plain row, and what it stores is
-- what the words hold.
use mathlib.Core.Path.{sym, ◌∙◌}
use Rattle.row.specs.RowBytes.{row_bytes}
use Rattle.outcome.proofs.settled.Goals as goal

pub returns : goal.returns
unfolding row_bytes
returns c =
    let e = sym c.fits.ensures ∙ c.if-not-fits.false in
    (c.accepted.ensures ∙ rw (c.store-after.ensures, e), c.write_rows.ensures ∙ rw e)
