-- `text::spaces_end` meets its contract: the run, in std's word.
use mathlib.Core.Path.{ap, ◌∙◌}
use Prim.Native.Nat.{◌+◌}
use lib.ListN.{drop}
use Rattle.form.specs.Scan.{is_space, spaces_end}
use Rattle.text.proofs.Runs.{run_law}
use Rattle.text.proofs.spaces_end.Goals as goal

pub returns : goal.returns
unfolding spaces_end
returns c = ap (λ n. c.args.p + n) (c.spaces.ensures.value ∙ run_law is_space (drop c.args.p c.args.s.now))
