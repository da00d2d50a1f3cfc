-- A refusal of the reader is the answer with its number and place. For the reader.
use mathlib.Core.Path.{◌≡◌, refl}
use mathlib.Core.Bool.{Bool, true, false, cond}
use Prim.Native.Nat.{ℕ}
use borrow.Author.Tests.{ne_eqb}
use lib.Dec.{eqb}
use Rattle.text.specs.declared.Refusal.TheVariants as Why
use Rattle.text.specs.Refusals.{refusal_of}
use Rattle.book.specs.declared.ReadingAnswer.TheVariants.{BadLine, AboveLimit, Redeclared, Undeclared, BadPattern, EmptyWord, Unbound}
use Rattle.book.specs.Answers.{answer_of, answer_for}

pub answer_refused : (n p : ℕ) → (n ≡ 0 → ⊥) → (n ≡ 1 → ⊥) → answer_for (refusal_of n p) ≡ answer_of n p
unfolding answer_of refusal_of
answer_refused n p some other = rw (ne_eqb n 0 some, ne_eqb n 1 other) (by (eqb n 2) (eqb n 3) (eqb n 4) (eqb n 5) (eqb n 6) (eqb n 7))
  where
    by : (s t u v w x : Bool)
        → answer_for (cond s (Why.BadLine p) (cond t (Why.AboveLimit p) (cond u (Why.Redeclared p) (cond v (Why.Undeclared p)
        (cond w (Why.BadPattern p) (cond x (Why.EmptyWord p) (Why.Unbound p)))))))
        ≡ cond s (BadLine p) (cond t (AboveLimit p) (cond u (Redeclared p) (cond v (Undeclared p)
        (cond w (BadPattern p) (cond x (EmptyWord p) (Unbound p))))))
    by true t u v w x = refl
    by false true u v w x = refl
    by false false true v w x = refl
    by false false false true w x = refl
    by false false false false true x = refl
    by false false false false false true = refl
    by false false false false false false = refl
