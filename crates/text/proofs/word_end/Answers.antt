-- `text::word_end` meets its contract: the run, in std's word.
use mathlib.Core.Path.{ap, ◌∙◌}
use Prim.Native.Nat.{◌+◌}
use lib.ListN.{drop}
use Rattle.form.specs.Scan.{is_word_byte, word_end}
use Rattle.text.proofs.Runs.{run_law}
use Rattle.text.proofs.word_end.Goals as goal

pub returns : goal.returns
unfolding word_end
returns c = ap (λ n. c.args.p + n) (c.word_bytes.ensures.value ∙ run_law is_word_byte (drop c.args.p c.args.s.now))
