-- The result of reading a part of a pattern as the code has it: the fragment in place of the tree, or why the text is refused.
use Rattle.std.specs.Prelude.{cond, ℕ, suc, ◌≤◌, eqb, length, Result, Ok, Err}
use Rattle.pattern.specs.Positions.{occurrence_limit}
use Rattle.form.specs.Limits.{text_limit}
use Rattle.form.specs.Text.{Bytes}
use Rattle.form.specs.Parse as Parse
use Rattle.text.specs.declared.Refusal.{Refusal}
use Rattle.text.specs.Refusals.{refusal_of}
use Rattle.table.specs.Tables.{Ready}
use Rattle.table.specs.declared.Table.{Table}
use Rattle.piece.specs.Pieces.{piece_of}
use Rattle.items.specs.declared.Parsed.{Parsed}

-- `vars` gives the variables that a symbol binds; `used` counts the occurrences read before
unfoldable pub parsed_of : (vars : ℕ → ℕ) (used : ℕ) → Parse.Parsed → Result Parsed Refusal
parsed_of vars used a =
    let read : Parsed = record { place = a.step.place; piece = piece_of vars a.tree (suc used) } in
    cond (eqb a.step.fault 0) (Ok read) (Err (refusal_of a.step.fault a.step.place))

-- what the readers of a pattern may count on
pub record Readable (s : Bytes) (t : Table) (used p : ℕ) : Type 0 where
  pub short : length s ≤ text_limit
  pub ready : Ready s t
  pub few : used ≤ occurrence_limit
  pub in_text : p ≤ length s
