-- `skip::skip_one` meets its contract: by whether d meets c.
use mathlib.Core.Path.{sym, ◌∙◌}
use lib.ListN.{take}
use Rattle.disjunct.specs.Disjuncts.{view_disjunct}
use Rattle.packed.specs.Sets.{disjuncts_in}
use Rattle.skip.proofs.Demands.{skip_met, skip_kept, kept_one}
use Rattle.skip.proofs.skip_one.Goals as goal

pub returns-in-Ok-clause-set : goal.returns-in-Ok-clause-set
returns-in-Ok-clause-set c =
    let D = view_disjunct c.args.d in
    let met = sym c.in-Ok.ensures.meets in
    rw c.in-Some.is (rw (skip_met c.in-Some.constraint D met) c.exclude_each.ensures.set)

pub returns-in-Err-clause-set : goal.returns-in-Err-clause-set
returns-in-Err-clause-set c =
    let D = view_disjunct c.args.d in
    let apart = sym c.in-Err.ensures.meets in
    rw c.in-Some.is
    (rw (skip_kept c.in-Some.constraint D apart)
    (c.insert-in-Err.ensures.set ∙ sym (kept_one D (take c.args.m (disjuncts_in c.args.out.now)) c.requires.2)))

pub returns-in_default-clause-set : goal.returns-in_default-clause-set
returns-in_default-clause-set c =
    let D = view_disjunct c.args.d in
    rw c.in_default.is (c.insert.ensures.set ∙ sym (kept_one D (take c.args.m (disjuncts_in c.args.out.now)) c.requires.2))
