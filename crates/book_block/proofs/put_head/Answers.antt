-- `put_head` meets its contract: seven words written one after the other are a front; the flag is 1 or 0.
use mathlib.Core.Path.{◌≡◌, refl}
use mathlib.Core.Bool.{Bool, true, false}
use mir.Val.{bool_byte}
use native.Mathlib.Omega.{arith}
use lib.ListN.{length-set}
use lib.Seq.{sets-eq}
use Rattle.laws.specs.Parts.{front}
use Rattle.blocks.specs.BookBlock.{book_head, flag}
use Rattle.book_block.proofs.Splits.{book_numbers}
use Rattle.book_block.proofs.put_head.Goals as goal

pub overflow_cast-words : goal.overflow_cast-words
overflow_cast-words c = omega (arith, book_numbers c.args.b c.requires.1)

pub overflow_cast-words-2 : goal.overflow_cast-words-2
overflow_cast-words-2 c = omega (arith, book_numbers c.args.b c.requires.1)

pub overflow_cast-words-3 : goal.overflow_cast-words-3
overflow_cast-words-3 c = omega (arith, book_numbers c.args.b c.requires.1)

pub bounds-words-4 : goal.bounds-words-4
bounds-words-4 c = simp length-set (omega arith)

pub bounds-words-5 : goal.bounds-words-5
bounds-words-5 c = simp length-set (omega arith)

pub bounds-words-6 : goal.bounds-words-6
bounds-words-6 c = simp length-set (omega arith)

-- a flag as a word
flag_word : (e : Bool) → bool_byte e ≡ flag e
flag_word true = refl
flag_word false = refl

pub returns : goal.returns
unfolding front
returns c = rw (flag_word c.args.b.empty) (sets-eq (book_head c.args.b) c.args.words.now 0 (omega arith))
