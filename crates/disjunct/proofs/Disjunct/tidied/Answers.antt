-- `Disjunct::tidied` meets its contract: the first i variables, coded.
use mathlib.Core.Path.{sym, ap, ap₂, ◌∙◌}
use native.Mathlib.Omega.{arith}
use lib.ListN.{set}
use Rattle.laws.specs.Parts.{pad}
use Rattle.slot.specs.Slots.{slot_of}
use Rattle.disjunct.specs.Disjuncts.{view_disjunct, disjunct_of}
use Rattle.disjunct.proofs.Disjuncts.{view_length, sized}
use Rattle.disjunct.proofs.Slots.{entry_at, coded_next}
use Rattle.disjunct.proofs.Disjunct.tidied.Goals as goal

pub loop-i-init : goal.loop-i-init
unfolding disjunct_of pad
loop-i-init c = c.free-d.ensures

pub loop-i-preserved : goal.loop-i-preserved
loop-i-preserved c =
    let l = c.loop-i in
    let a = c.args in
    let e = c.tidied.ensures ∙ ap slot_of (sym (entry_at a.self l.i)) in
    let g = view_length a.self (sized a.self c.well_formed.0).four in
    ap₂ (λ d x. record { vars = set d.vars l.i x }) l.invariant e
    ∙ coded_next (view_disjunct a.self) l.i (omega (arith, c.requires)) (omega arith)
