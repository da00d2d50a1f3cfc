-- `lines::is_word` meets its contract: the slices are equal.
use mathlib.Core.Path.{◌∙◌}
use Rattle.form.specs.Scan.{part}
use Rattle.text.proofs.Parts.{same_bytes}
use Rattle.lines.proofs.is_word.Goals as goal

pub returns : goal.returns
returns c = let a = c.args in c.eq.ensures ∙ same_bytes (part a.s.now a.p a.e) a.word.now
