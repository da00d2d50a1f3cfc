-- `step::add_met` meets its contract: what is met of one disjunct is one disjunct or none.
use mathlib.Core.Path.{sym, ap, ◌∙◌}
use native.Mathlib.Omega.{arith}
use lib.ListN.{length, take, length-take}
use Rattle.std.proofs.Common.{Some}
use Rattle.laws.specs.Sets.{insert, within}
use Rattle.laws.proofs.Turns.{counted_few}
use Rattle.meaning.specs.Labels.{compare_disjuncts}
use Rattle.demand.specs.Constraints.{view_constraint}
use Rattle.disjunct.specs.Disjuncts.{view_disjunct}
use Rattle.packed.specs.Sets.{disjuncts_in}
use Rattle.step.proofs.Meetings.{met_yes, met_no}
use Rattle.step.proofs.add_met.Goals as goal

pub returns-in-Ok-clause-set : goal.returns-in-Ok-clause-set
returns-in-Ok-clause-set c =
    let l = take c.args.m (disjuncts_in c.args.out.now) in
    c.insert.ensures.set ∙ ap (λ E. within 128 (insert compare_disjuncts E l)) c.in-Ok.ensures.met
    ∙ ap (within 128) (sym (met_yes (view_constraint (Some c.args.c)) (view_disjunct c.args.d) l (sym c.in-Ok.ensures.meets)))

pub returns-in-Err-clause-set : goal.returns-in-Err-clause-set
returns-in-Err-clause-set c =
    let l = take c.args.m (disjuncts_in c.args.out.now) in
    sym (counted_few 128 (length l) l (omega (arith, length-take c.args.m (disjuncts_in c.args.out.now), c.requires.0)))
    ∙ ap (within 128) (sym (met_no (view_constraint (Some c.args.c)) (view_disjunct c.args.d) l (sym c.in-Err.ensures.meets)))
