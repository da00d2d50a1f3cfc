-- A step of the reader as the code has it: what it brought, or why the text is refused.
use Rattle.std.specs.Prelude.{cond, ℕ, eqb, Result, Ok, Err}
use Rattle.form.specs.Scan as Scan
use Rattle.text.specs.declared.Refusal.{Refusal}
use Rattle.text.specs.Refusals.{refusal_of}

-- a step that brought a
abbrev pub brought : {A : Type 0} → Scan.Step → A → Result A Refusal
brought x a = cond (eqb x.fault 0) (Ok a) (Err (refusal_of x.fault x.place))

-- a step that brought no more than the place to go on from
abbrev pub step_of : Scan.Step → Result ℕ Refusal
step_of x = brought x x.place
