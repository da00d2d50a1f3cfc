-- `skip::skip_through` meets its contract: what is held so far, taken through the constraints ahead.
use borrow.Author.Rules.{rules}
use mathlib.Core.Path.{◌≡◌, sym, ap, ap₂, ◌∙◌}
use mathlib.Core.List.{List, ◌∷◌, map}
use Prim.Native.Nat.{ℕ, ◌+◌, ◌≤◌, ◌<◌}
use native.Mathlib.Omega.{arith}
use Rattle.std.proofs.Common.{Option}
use native.Mathlib.Nat.{zero-add}
use lib.ListN.{length, take, drop, get_or}
use Rattle.laws.proofs.Maps.{mapped_cons, mapped_none}
use Rattle.meaning.specs.Events as Events
use Rattle.meaning.specs.Labels.{Disjunct}
use Rattle.bounded.specs.Bounded.{skipped, skipped_through}
use Rattle.bounded.proofs.Skips.{through_none, through_full, through_grown, through_never, skipped_sound}
use Rattle.demand.specs.declared.Constraint.{Constraint}
use Rattle.demand.specs.Constraints.{view_constraint, no_constraint}
use Rattle.packed.specs.Sets.{disjuncts_in, grown_in}
use Rattle.skip.proofs.Words.{room_in}
use Rattle.skip.proofs.skip_through.Goals as goal
use Rattle.skip.proofs.skip_through.Goals.{in-Some+in_ok-m, in_default}

-- this constraint, and the constraints from number i on
abbrev this : List (Option Constraint) → ℕ → Events.Constraint
this cs i = view_constraint (get_or cs i no_constraint)

abbrev from : List (Option Constraint) → (n i : ℕ) → List Events.Constraint
from cs n i = drop i (map view_constraint (take n cs))

ahead : (cs : List (Option Constraint)) (n i : ℕ) (l : List Disjunct) → i < n → n ≤ length cs
    → skipped_through (this cs i ∷ from cs n (i + 1)) l ≡ skipped_through (from cs n i) l
ahead cs n i l h k = ap (λ r. skipped_through r l) (sym (mapped_cons view_constraint cs n i no_constraint h k))

pub returns-in_err-m-clause-set : goal.returns-in_err-m-clause-set
returns-in_err-m-clause-set c =
    let a = c.args in
    let l = c.loop-symbol in
    let held = take l.m (disjuncts_in l.words) in
    let size : length a.cs ≡ 16 = search rules in
    let none = ap (λ o. skipped (view_constraint o) held) c.in-Some.is ∙ sym c.in_err-m.ensures.set in
    ap (λ r. grown_in r l.words) c.from_residual.ensures
    ∙ sym (through_full (this a.cs l.symbol) held (from a.cs a.count (l.symbol + 1)) none)
    ∙ ahead a.cs a.count l.symbol held c.loop-symbol-test.true (omega arith) ∙ l.invariant.2

pub loop-symbol-preserved : goal.loop-symbol-preserved
loop-symbol-preserved c =
    let a = c.args in
    let l = c.loop-symbol in
    let held = take l.m (disjuncts_in l.words) in
    let C = this a.cs l.symbol in
    let later = from a.cs a.count (l.symbol + 1) in
    let size : length a.cs ≡ 16 = search rules in
    let next = ahead a.cs a.count l.symbol held c.loop-symbol-test.true (omega arith) ∙ l.invariant.2 in
    let now = c.match-cs-symbol in
    elim c.match-cs-symbol.branch [
      | in-Some+in_ok-m w ↦
          let k = take w.in_ok-m.m (disjuncts_in w.skip_by.new.out) in
          let e = ap (λ o. skipped (view_constraint o) held) w.in-Some.is ∙ sym w.in_ok-m.ensures.set in
          let same : take now.m (disjuncts_in now.words) ≡ k =
          ap₂ (λ m v. take m (disjuncts_in v)) w.m-is w.words-is ∙ (rw zero-add at w.append.ensures) in (
            omega (arith, w.m-is, w.in_ok-m.ensures.few),
            rw same (skipped_sound C held k e).0,
            ap (skipped_through later) same ∙ sym (through_grown C held later k e) ∙ next,
          )
      | in_default w ↦
          let same : take now.m (disjuncts_in now.words) ≡ held = ap₂ (λ m v. take m (disjuncts_in v)) w.m-is w.words-is in
          let off = ap view_constraint w.in_default.is in (
            omega (arith, w.m-is),
            rw same l.invariant.1,
            ap (skipped_through later) same ∙ sym (through_never later held l.invariant.1 (room_in l.m l.words l.invariant.0))
                ∙ ap (λ D. skipped_through (D ∷ later) held) (sym off) ∙ next,
          )
    ]

pub returns-clause-set : goal.returns-clause-set
returns-clause-set c =
    let l = c.loop-symbol in
    let a = c.args in
    sym (through_none (take l.m (disjuncts_in l.words)))
    ∙ ap (λ cs. skipped_through cs (take l.m (disjuncts_in l.words)))
    (sym (mapped_none view_constraint a.cs a.count l.symbol c.loop-symbol-test.false)) ∙ l.invariant.2
