-- "For an answer that is an enum, a definition gives this paper's number and values for each case of the enum."
use Rattle.std.specs.Prelude.{cond, ℕ, eqb}
use Rattle.form.specs.Limits.{text_limit}
use Rattle.text.specs.declared.Refusal.{Refusal}
use Rattle.text.specs.declared.Refusal.TheVariants as Why
use Rattle.book.specs.declared.ReadingAnswer.{ReadingAnswer}
use Rattle.book.specs.declared.ReadingAnswer.TheVariants.{Accepted, TooLong, BadLine, AboveLimit, Redeclared}
use Rattle.book.specs.declared.ReadingAnswer.TheVariants.{Undeclared, BadPattern, EmptyWord, Unbound}

-- the number in the table of document 01, "What a call hands back"
abbrev pub number_of : ReadingAnswer → ℕ
number_of Accepted = 0
number_of TooLong = 1
number_of (BadLine p) = 2
number_of (AboveLimit p) = 3
number_of (Redeclared p) = 4
number_of (Undeclared p) = 5
number_of (BadPattern p) = 6
number_of (EmptyWord p) = 7
number_of (Unbound p) = 8

-- the place beside it; an accepted text has none, which counts as 0
abbrev pub place_of : ReadingAnswer → ℕ
place_of Accepted = 0
place_of TooLong = text_limit
place_of (BadLine p) = p
place_of (AboveLimit p) = p
place_of (Redeclared p) = p
place_of (Undeclared p) = p
place_of (BadPattern p) = p
place_of (EmptyWord p) = p
place_of (Unbound p) = p

-- the answer with a number and a place
unfoldable pub answer_of : (number place : ℕ) → ReadingAnswer
answer_of n p =
    cond (eqb n 0) Accepted
    (cond (eqb n 1) TooLong
    (cond (eqb n 2) (BadLine p)
    (cond (eqb n 3) (AboveLimit p)
    (cond (eqb n 4) (Redeclared p)
    (cond (eqb n 5) (Undeclared p)
    (cond (eqb n 6) (BadPattern p)
    (cond (eqb n 7) (EmptyWord p)
    (Unbound p))))))))

-- the answer that says why a text is refused
abbrev pub answer_for : Refusal → ReadingAnswer
answer_for (Why.BadLine p) = BadLine p
answer_for (Why.AboveLimit p) = AboveLimit p
answer_for (Why.Redeclared p) = Redeclared p
answer_for (Why.Undeclared p) = Undeclared p
answer_for (Why.BadPattern p) = BadPattern p
answer_for (Why.EmptyWord p) = EmptyWord p
answer_for (Why.Unbound p) = Unbound p
