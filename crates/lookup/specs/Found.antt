-- The number of the first of the names that is the word w, none where no name is.
use Rattle.std.specs.Prelude.{cond, List, ℕ, ltb, length, Option, Some, None}
use Rattle.form.specs.Text.{Bytes, Span}
use Rattle.form.specs.Lines.{index_of}

abbrev pub found : Bytes → List Span → Bytes → Option ℕ
found s xs w = let i = index_of s xs w in cond (ltb i (length xs)) (Some i) None
