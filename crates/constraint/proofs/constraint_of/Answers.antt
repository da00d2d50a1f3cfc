-- `constraint::constraint_of` meets its contract: three tests, each a branch.
use mathlib.Core.Path.{◌≡◌, refl, sym, ap, ◌∙◌}
use borrow.Author.Rules.{rules}
use lib.ListN.{length}
use Rattle.meaning.specs.Events as Events
use Rattle.table.specs.Tables.{view_symbol}
use Rattle.record.specs.Records.{view_event}
use Rattle.constraint.proofs.Steps.{same_count, constraint_by}
use Rattle.constraint.proofs.constraint_of.Goals as goal
use Rattle.constraint.proofs.constraint_of.Goals.{then-not-matches-via-then-not-matches, then-not-matches-via-else-not-matches+then-not-fixed_agree}

pub fixed_agree-requires : goal.fixed_agree-requires
fixed_agree-requires c =
    let y = c.args.y in
    let e = c.args.e in
    let l : length y.parameters ≡ 4 = search rules in
    let m : length e.args ≡ 4 = search rules in
    (c.requires.0, same_count y e l c.requires.0 m c.requires.1 (sym c.matches.ensures ∙ c.if-not-matches.false))

pub demands-c-requires : goal.demands-c-requires
demands-c-requires c =
    let y = c.args.y in
    let e = c.args.e in
    let l : length y.parameters ≡ 4 = search rules in
    let m : length e.args ≡ 4 = search rules in
    (c.requires.0, same_count y e l c.requires.0 m c.requires.1 (sym c.matches.ensures ∙ c.if-not-matches.false), c.requires.2)

pub returns-then-not-matches : goal.returns-then-not-matches
returns-then-not-matches c =
    let y = view_symbol c.args.y in
    let e = view_event c.args.e in
    let m = sym c.matches.ensures in
    let h : Events.constraint_of y e ≡ Events.Constraint.never =
    elim c.then-not-matches.branch [
      | then-not-matches-via-then-not-matches w ↦ constraint_by y e (m ∙ w.if-not-matches.true) refl refl
      | then-not-matches-via-else-not-matches+then-not-fixed_agree w ↦ constraint_by y e (m ∙ w.if-not-matches.false) (sym w.fixed_agree.ensures ∙ w.if-not-fixed_agree.true) refl
    ] in
    (sym h, search rules)

pub returns-then-consistent : goal.returns-then-consistent
returns-then-consistent c =
    let d = c.demands-c in
    let s = ap Events.consistent (sym d.ensures.0) ∙ sym c.consistent.ensures ∙ c.if-consistent.true in
    let g = sym c.fixed_agree.ensures ∙ c.if-not-fixed_agree.false in
    let h = constraint_by (view_symbol c.args.y) (view_event c.args.e) (sym c.matches.ensures ∙ c.if-not-matches.false) g s in
    (ap Events.Constraint.demands d.ensures.0 ∙ sym h, d.ensures.1)

pub returns-else-consistent : goal.returns-else-consistent
returns-else-consistent c =
    let d = c.demands-c in
    let s = ap Events.consistent (sym d.ensures.0) ∙ sym c.consistent.ensures ∙ c.if-consistent.false in
    let g = sym c.fixed_agree.ensures ∙ c.if-not-fixed_agree.false in
    let h = constraint_by (view_symbol c.args.y) (view_event c.args.e) (sym c.matches.ensures ∙ c.if-not-matches.false) g s in
    (sym h, search rules)
