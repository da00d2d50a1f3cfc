-- `sets::join` meets its contract. The loop's invariant: the first i have been put among the others, and there is room so far.
use Rattle.std.proofs.Common.{rules, ◌≡◌, ◌∙◌, ap, None}
use Rattle.packed.specs.Sets.{grown_in}
use Rattle.sets.proofs.Turns.{joined_more, joined_over}
use Rattle.sets.proofs.join.Goals as goal

pub returns-in_err-n-clause-set : goal.returns-in_err-n-clause-set
returns-in_err-n-clause-set c =
    let none : c.from_residual.result ≡ None = search rules in
    ap (λ r. grown_in r c.insert.new.words) none
    ∙ joined_over c.loop-i.invariant c.requires.1 c.loop-i-test.true c.get.ensures c.in_err-n.ensures.set

pub loop-i-preserved : goal.loop-i-preserved
loop-i-preserved c =
    joined_more c.loop-i.invariant c.requires.1 c.loop-i-test.true c.get.ensures c.in_ok-n.n c.insert.new.words c.in_ok-n.ensures.few c.in_ok-n.ensures.set
