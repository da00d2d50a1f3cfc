-- `table::bound_in` meets its contract: the mask of the parameters passed, joined with that of those ahead.
use mathlib.Core.Path.{◌≡◌}
use mathlib.Core.Bool.{true}
use mathlib.Core.List.{map}
use lib.ListN.{drop}
use Rattle.laws.specs.Bits.{join}
use Rattle.laws.specs.Lists.{all}
use Rattle.meaning.specs.Book.{sound_parameter, bound_in}
use Rattle.table.specs.Tables.{view_parameter}
use Rattle.table.proofs.bound_in.Given as goal

-- what is joined so far, with what the parameters ahead bind, is what all bind
abbrev pub invariant-loop-p : goal.invariant-loop-p
invariant-loop-p l =
    let rest = map view_parameter (drop l.p-index l.p-items) in
    (all (sound_parameter 32) rest ≡ true) × (join l.m (bound_in rest) ≡ bound_in (map view_parameter l.p-items))
