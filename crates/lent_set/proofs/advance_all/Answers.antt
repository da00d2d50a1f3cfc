-- `advance_all` meets its contract: after k turns the first k books have taken the event, their states are stored and their rows written.
use mathlib.Core.Path.{◌≡◌, refl, ap, ◌∙◌}
use Prim.Native.Nat.{◌<◌}
use native.Mathlib.Omega.{arith}
use borrow.Author.Rules.{rules}
use Rattle.laws.specs.Parts.{splice}
use Rattle.lent_set.proofs.Own.{own_size, own_number, own_bytes, own_next}
use Rattle.lent_set.proofs.Taken.{taken_none, taken_more, taken_all_law}
use Rattle.lent_set.proofs.Turn.{turn}
use Rattle.lent_set.proofs.advance_all.Goals as goal

pub loop-k-init : goal.loop-k-init
loop-k-init c = (search rules, search rules, search rules, taken_none _ _ _ _ _)

pub slice_bounds-advance-end : goal.slice_bounds-advance-end
slice_bounds-advance-end c =
    let l = c.loop-k in
    let t = turn l.invariant.3 l.invariant.1 c.loop-k-test.true c.requires.1 c.requires.2 in
    omega (arith, t.books_inside)

pub slice_bounds-advance-end-in-loop-k : goal.slice_bounds-advance-end-in-loop-k
slice_bounds-advance-end-in-loop-k c =
    let l = c.loop-k in
    let t = turn l.invariant.3 l.invariant.1 c.loop-k-test.true c.requires.1 c.requires.2 in
    omega (arith, t.states_inside)

pub advance-n-requires : goal.advance-n-requires
advance-n-requires c =
    let a = c.args in
    let l = c.loop-k in
    let t = turn l.invariant.3 l.invariant.1 c.loop-k-test.true c.requires.1 c.requires.2 in (
      search rules,
      search rules,
      own_number a.books.now a.states.now a.bytes.now l.k t.book t.state t.books_inside t.states_inside ∙ t.passes,
      omega (arith, t.counted, t.rows_end, t.fits, l.invariant.2),
    )

pub overflow_mul-next : goal.overflow_mul-next
overflow_mul-next c =
    let l = c.loop-k in
    let t = turn l.invariant.3 l.invariant.1 c.loop-k-test.true c.requires.1 c.requires.2 in
    omega (arith, c.advance-n.ensures.0, t.counted, t.rows_end, t.fits)

pub overflow_add-next : goal.overflow_add-next
overflow_add-next c =
    let l = c.loop-k in
    let t = turn l.invariant.3 l.invariant.1 c.loop-k-test.true c.requires.1 c.requires.2 in
    omega (arith, c.advance-n.ensures.0, t.counted, t.rows_end, t.fits)

pub loop-k-preserved : goal.loop-k-preserved
loop-k-preserved c =
    let a = c.args in
    let l = c.loop-k in
    let t = turn l.invariant.3 l.invariant.1 c.loop-k-test.true c.requires.1 c.requires.2 in
    let done = c.advance-n.ensures in
    let small : l.k < 256 = omega (arith, c.loop-k-test.true, c.requires.0) in (
      search rules,
      search rules,
      search rules,
      taken_more a.books.now a.states.now a.bytes.now a.rows.now a.place l.invariant.3 (omega (arith, t.states_inside)) l.invariant.1 (done.0 ∙ t.counted)
          (own_size a.books.now a.states.now a.bytes.now l.k t.passes) t.fits
          (done.2 ∙ own_next a.books.now a.states.now a.bytes.now l.k t.book t.state)
          (done.1 ∙ ap (λ r. splice l.next r l.rows)
          (own_bytes a.books.now a.states.now a.bytes.now l.k t.book t.state refl)),
    )

pub returns : goal.returns
returns c =
    let a = c.args in
    let e : c.loop-k.k ≡ a.count = omega arith in
    taken_all_law a.books.now a.states.now a.bytes.now a.rows.now a.place c.loop-k.invariant.3 e
