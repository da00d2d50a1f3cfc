-- A word as a name, as a kind and as a fixed number, as the code has it.
use Rattle.std.specs.Prelude.{cond, ℕ, eqb, Option, Some, None, Result}
use Rattle.form.specs.Text.{Bytes}
use Rattle.form.specs.Scan.{fail, part, value, name_fault, kind_of, is_number}
use Rattle.text.specs.declared.Refusal.{Refusal}
use Rattle.text.specs.Steps.{brought}

-- the word from p to e as a name
abbrev pub name_told : Bytes → (p e : ℕ) → Result (Unit {0}) Refusal
name_told s p e = brought (fail (name_fault s p e) p) tt

-- its value as a kind, none where it is no such number
abbrev pub kind_told : Bytes → (p e : ℕ) → Option ℕ
kind_told s p e = let n = kind_of s p e in cond (eqb n 0) None (Some n)

-- its value as a fixed number, none where it is no such number
abbrev pub number_told : Bytes → (p e : ℕ) → Option ℕ
number_told s p e = let w = part s p e in cond (is_number w) (Some (value 0 w)) None
