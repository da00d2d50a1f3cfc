-- `skip::skip_by` meets its contract: what has grown so far, and what the disjuncts ahead give into it.
use mathlib.Core.Path.{◌≡◌, refl, sym, ap, ◌∙◌}
use mathlib.Core.List.{List, [], ◌∷◌}
use Prim.Native.Nat.{ℕ, ◌+◌, ◌≤◌, ◌<◌}
use native.Mathlib.Omega.{arith}
use borrow.Author.Rules.{rules}
use Rattle.std.proofs.Common.{None}
use lib.ListN.{length, take, drop, get_or}
use Rattle.laws.specs.Lists.{gather}
use Rattle.laws.specs.Sets.{Grown, grown}
use Rattle.laws.proofs.Lists.{taken_cons, taken_none}
use Rattle.meaning.specs.Events as Events
use Rattle.meaning.specs.Labels.{Disjunct, skip_one}
use Rattle.meaning.specs.Room.{few_exclusions}
use Rattle.bounded.specs.Bounded.{grow_few}
use Rattle.bounded.proofs.Skips.{few_append, skipped_grow}
use Rattle.demand.specs.Constraints.{view_constraint}
use Rattle.disjunct.specs.Disjuncts.{view_disjunct}
use Rattle.packed.specs.Sets.{disjuncts_in, grown_in}
use Rattle.packed.proofs.Sets.{in_length, few_in}
use Rattle.skip.proofs.Growth.{step_grown, step_ascending, step_full}
use Rattle.skip.proofs.skip_by.Goals as goal

-- what the disjuncts from number i on give
abbrev later : Events.Constraint → List Disjunct → (n i : ℕ) → List Disjunct
later C l n i = gather (skip_one C) (drop i (take n l))

-- in a turn, D being the i-th disjunct: what it gives and then what the later ones give is what those from i on give
ahead : (C : Events.Constraint) (D : Disjunct) (l : List Disjunct) (n i : ℕ) (g : Grown Disjunct) → i < n → n ≤ length l → D ≡ get_or l i []
    → grow_few (later C l n (i + 1)) (grow_few (skip_one C D) g) ≡ grow_few (later C l n i) g
ahead C D l n i g h k e =
    let next : drop i (take n l) ≡ D ∷ drop (i + 1) (take n l) = taken_cons l n i [] h k ∙ ap (λ E. E ∷ drop (i + 1) (take n l)) (sym e) in
    sym (few_append (skip_one C D) (later C l n (i + 1)) g) ∙ ap (λ ds. grow_few (gather (skip_one C) ds) g) (sym next)

pub loop-i-init : goal.loop-i-init
loop-i-init c =
    let a = c.args in
    (omega arith, refl, skipped_grow (view_constraint a.c) (take a.n (disjuncts_in a.from.now)))

pub skip_one-requires : goal.skip_one-requires
skip_one-requires c =
    let l = c.loop-i in
    (l.invariant.0, c.requires.1, ap few_exclusions c.get.ensures ∙ few_in c.args.from.now l.i (omega arith), l.invariant.1)

pub returns-in_err-m-clause-set : goal.returns-in_err-m-clause-set
returns-in_err-m-clause-set c =
    let a = c.args in
    let l = c.loop-i in
    let C = view_constraint a.c in
    let D = view_disjunct c.get.result in
    let ds = disjuncts_in a.from.now in
    let held = take l.m (disjuncts_in l.out) in
    let few : a.n ≤ length ds = omega (arith, in_length a.from.now) in
    let none : c.from_residual.result ≡ None = search rules in
    ap (λ r. grown_in r c.skip_one.new.out) none
    ∙ sym (step_full (skip_one C D) held (later C ds a.n (l.i + 1)) c.in_err-m.ensures.set)
    ∙ ahead C D ds a.n l.i (grown held) c.loop-i-test.true few c.get.ensures ∙ l.invariant.2

pub loop-i-preserved : goal.loop-i-preserved
loop-i-preserved c =
    let a = c.args in
    let l = c.loop-i in
    let C = view_constraint a.c in
    let D = view_disjunct c.get.result in
    let ds = disjuncts_in a.from.now in
    let held = take l.m (disjuncts_in l.out) in
    let k = take c.in_ok-m.m (disjuncts_in c.skip_one.new.out) in
    let e = c.in_ok-m.ensures.set in
    let few : a.n ≤ length ds = omega (arith, in_length a.from.now) in (
      c.in_ok-m.ensures.few,
      step_ascending (skip_one C D) held k e l.invariant.1,
      sym (step_grown (skip_one C D) held k (later C ds a.n (l.i + 1)) e)
          ∙ ahead C D ds a.n l.i (grown held) c.loop-i-test.true few c.get.ensures ∙ l.invariant.2,
    )

pub returns-clause-set : goal.returns-clause-set
returns-clause-set c =
    let l = c.loop-i in
    let a = c.args in
    sym (ap (λ k. grow_few (gather (skip_one (view_constraint a.c)) k) (grown (take l.m (disjuncts_in l.out))))
    (taken_none (disjuncts_in a.from.now) a.n l.i c.loop-i-test.false)) ∙ l.invariant.2
