-- `lookup::find` meets its contract: the names passed and the index among those ahead.
use mathlib.Core.Path.{◌≡◌}
use mathlib.Core.Bool.{true}
use mathlib.Core.List.{map}
use Prim.Native.Nat.{◌+◌}
use lib.ListN.{length, drop}
use Rattle.laws.specs.Lists.{all}
use Rattle.form.specs.Scan.{part}
use Rattle.form.specs.Lines.{index_of}
use Rattle.table.specs.Tables.{inside, span_of}
use Rattle.lookup.proofs.find.Given as goal

-- none of the names passed is the word
abbrev pub invariant-loop-i : goal.invariant-loop-i
invariant-loop-i l =
    let rest = map span_of (drop l.i l.names) in
    let w = part l.s l.p l.e in record {
      within : all (inside (length l.s)) rest ≡ true;
      ahead : l.i + index_of l.s rest w ≡ index_of l.s (map span_of l.names) w;
    }
