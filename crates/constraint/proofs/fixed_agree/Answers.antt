-- `constraint::fixed_agree` meets its contract: the places from i on decide, as long as those passed have their arguments.
use mathlib.Core.Path.{◌≡◌, sym, ◌∙◌}
use mathlib.Core.Bool.{Bool, true, false, ◌&&◌}
use Prim.Native.Nat.{ℕ, ◌+◌}
use borrow.Author.Rules.{rules}
use lib.ListN.{length, get_or}
use Rattle.laws.proofs.Arrays.{map_length}
use Rattle.meaning.specs.Events as Events
use Rattle.table.specs.declared.Parameter.{Parameter}
use Rattle.table.specs.Tables.{view_parameter, view_symbol}
use Rattle.record.specs.Records.{view_event}
use Rattle.constraint.proofs.Steps.{parameter_at, differs, agrees_at, unfixed, fixed_from, fixed_next, fixed_first}
use Rattle.constraint.proofs.fixed_agree.Goals as goal
use Rattle.constraint.proofs.fixed_agree.Goals.{else-p-eq2-via-then-p-eq2+else-p-given, else-p-eq2-via-else-p-eq2}

pub loop-i-init : goal.loop-i-init
loop-i-init c = fixed_first c.args.y c.args.e c.requires.1

pub returns-then-p-given : goal.returns-then-p-given
returns-then-p-given c =
    let place : Parameter = parameter_at c.args.y c.loop-i.i in
    let given : ℕ = get_or c.args.e.args c.loop-i.i 0 in
    let lengths : (length c.args.y.parameters ≡ 4) × (length c.args.e.args ≡ 4) = (search (rules, map_length), search (rules, map_length)) in
    let next : (b : Bool) → let a = c.args in
    Events.fixed_at (view_parameter place) given ≡ b
    → (b && fixed_from a.y a.e (c.loop-i.i + 1)) ≡ Events.fixed_all (view_symbol a.y).parameters (view_event a.e).args = λ b e. let l = c.loop-i in
    let k = lengths in
    sym (fixed_next c.args.y c.args.e l.i c.loop-i-test.true c.requires.0 k.0 k.1 e) ∙ l.invariant in
    next false (differs place given c.if-p-eq2.true c.if-p-given.true)

pub loop-i-preserved : goal.loop-i-preserved
loop-i-preserved c =
    let place : Parameter = parameter_at c.args.y c.loop-i.i in
    let given : ℕ = get_or c.args.e.args c.loop-i.i 0 in
    let lengths : (length c.args.y.parameters ≡ 4) × (length c.args.e.args ≡ 4) = (search (rules, map_length), search (rules, map_length)) in
    let next : (b : Bool) → let a = c.args in
    Events.fixed_at (view_parameter place) given ≡ b
    → (b && fixed_from a.y a.e (c.loop-i.i + 1)) ≡ Events.fixed_all (view_symbol a.y).parameters (view_event a.e).args = λ b e. let l = c.loop-i in
    let k = lengths in
    sym (fixed_next c.args.y c.args.e l.i c.loop-i-test.true c.requires.0 k.0 k.1 e) ∙ l.invariant in
    let agrees : Events.fixed_at (view_parameter place) given ≡ true = elim c.else-p-eq2.branch [
      | else-p-eq2-via-then-p-eq2+else-p-given w ↦ agrees_at place given w.if-p-given.false
      | else-p-eq2-via-else-p-eq2 w ↦ unfixed place given w.if-p-eq2.false
    ] in
    next true agrees
