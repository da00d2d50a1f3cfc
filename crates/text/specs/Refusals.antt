-- Why a text is refused: document 01's number and place for each case of the enum.
use Rattle.std.specs.Prelude.{cond, ℕ, eqb}
use Rattle.text.specs.declared.Refusal.{Refusal}
use Rattle.text.specs.declared.Refusal.TheVariants as Why

-- the refusal with a number, 2 to 8, and a place
unfoldable pub refusal_of : (fault place : ℕ) → Refusal
refusal_of n p =
    cond (eqb n 2) (Why.BadLine p)
    (cond (eqb n 3) (Why.AboveLimit p)
    (cond (eqb n 4) (Why.Redeclared p)
    (cond (eqb n 5) (Why.Undeclared p)
    (cond (eqb n 6) (Why.BadPattern p)
    (cond (eqb n 7) (Why.EmptyWord p)
    (Why.Unbound p))))))
