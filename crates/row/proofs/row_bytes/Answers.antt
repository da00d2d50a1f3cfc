-- `row::row_bytes` meets its contract: the bytes of each word stand where it is copied, and the four words are their own padding.
use mathlib.Core.Path.{◌≡◌, ◌∙◌}
use borrow.Author.Rules.{rules}
use lib.ListN.{length}
use Rattle.row.specs.RowBytes.{word_bytes, bytes_of}
use Rattle.row.proofs.RowBytes.{four_words}
use Rattle.row.proofs.row_bytes.Goals as goal

pub returns : goal.returns
unfolding bytes_of word_bytes
returns c =
    let r = c.args.r in
    let l : length r.values ≡ 4 = search rules in
    rw (
      four_words r.values l,
      c.copy_from_slice.ensures.after ∙ c.to_le_bytes.ensures,
      c.copy_from_slice-2.ensures.after ∙ c.to_le_bytes-2.ensures,
      c.copy_from_slice-3.ensures.after ∙ c.to_le_bytes-3.ensures,
      c.copy_from_slice-4.ensures.after ∙ c.to_le_bytes-4.ensures,
      c.copy_from_slice-5.ensures.after ∙ c.to_le_bytes-5.ensures,
    )
