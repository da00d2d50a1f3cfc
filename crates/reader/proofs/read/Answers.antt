-- `reader::read` meets its contract: too long, or as `short_read` tells; and what is lent is bytes.
use mathlib.Core.Path.{◌≡◌, refl, sym, ◌∙◌}
use mathlib.Core.Bool.{true}
use Prim.Native.Nat.{◌<◌}
use native.Mathlib.Omega.{arith}
use borrow.Author.Tests.{lt-ltb}
use lib.ListN.{length}
use Rattle.laws.proofs.Slices.{bytes_lent}
use Rattle.form.specs.Text.{Bytes}
use Rattle.form.specs.Reading.{reading_of}
use Rattle.book.specs.Answers.{answer_of}
use Rattle.book.specs.Books.{empty_book, reading_for, reading}
use Rattle.book.specs.declared.Reading.{Reading}
use Rattle.book.specs.declared.ReadingAnswer.TheVariants as Answer
use Rattle.reader.proofs.read.Goals as goal

too_long_law : (s : Bytes) → 4096 < length s
    → ◌≡◌ {A = Reading} (record { answer = Answer.TooLong; book = empty_book; begin_count = 0; end_count = 0 }) (reading s)
unfolding reading_of reading_for answer_of
too_long_law s h = rw (lt-ltb 4096 (length s) h)

pub returns-then-s-gt-TEXT_LIMIT : goal.returns-then-s-gt-TEXT_LIMIT
returns-then-s-gt-TEXT_LIMIT c = (c.refused.ensures ∙ too_long_law _ c.if-s-gt-TEXT_LIMIT.true, bytes_lent c.args.s.now c.type_inv.s)

pub returns-in-Ok : goal.returns-in-Ok
returns-in-Ok c = (c.in-Ok.ensures, bytes_lent c.args.s.now c.type_inv.s)

pub returns-in-Err : goal.returns-in-Err
returns-in-Err c = (c.refused-in-Err.ensures ∙ rw c.from.ensures c.in-Err.ensures, bytes_lent c.args.s.now c.type_inv.s)
