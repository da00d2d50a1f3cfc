-- The cycle of calls alternation, sequence, atom meets its contracts.
use mathlib.Core.Path.{◌≡◌, refl, sym, ap, ◌∙◌}
use mathlib.Core.Bool.{true, false}
use Prim.Native.Nat.{◌+◌, ◌-◌, ◌<◌}
use native.Mathlib.Omega.{arith}
use lib.Dec.{eqb}
use Rattle.std.specs.Prelude.{Err}
use Rattle.std.proofs.lemmas.Result.{err_from_is_err_and}
use Rattle.pattern.specs.Regex.{alt, cat}
use Rattle.form.specs.Scan.{at}
use Rattle.form.specs.Phrase.{bar}
use Rattle.text.specs.Refusals.{refusal_of}
use Rattle.text.proofs.Runs.{at_some, at_none}
use Rattle.items.specs.Results.{Readable}
use Rattle.items.proofs.Leaves.{stands}
use Rattle.grammar.proofs.Cycle.{Parts, vars, alternated, sequenced, first_alone, second_fault, both_in_order}
use Rattle.grammar.proofs.Cycle.{alternation_stopped, alternation_parts, alternation_next, alternation_held}
use Rattle.grammar.proofs.Cycle.{sequence_stopped, sequence_parts, sequence_next, sequence_held}
use Rattle.grammar.proofs.Cycle.{atom_held, atom_here, atom_next, atom_name, atom_unfit, atom_deep, atom_group, atom_group_stopped}
use Rattle.grammar.proofs.+alternation_atom_sequence.Goals as goal
use Rattle.grammar.proofs.+alternation_atom_sequence.Goals.{atom-in_default-via-in-Some+else-is_lower, atom-in_default-via-in_default}

pub alternation-returns-in_err-a : goal.alternation-returns-in_err-a
alternation-returns-in_err-a m c =
    let p = err_from_is_err_and c.from_residual.result c.from_residual.ensures.1 in
    rw (p.1, p.2) (alternation_stopped c.requires.0 c.args.depth c.in_err-a.ensures)

-- whether `|` stands behind the sequence
pub alternation-overflow_add-used : goal.alternation-overflow_add-used
alternation-overflow_add-used m c =
    let on = stands c.args.s.now c.spaces_end-q.result 124 (omega arith) c.peek.ensures (sym c.if-eq.true ∙ c.eq.ensures) in
    let behind = alternation_next c.requires.0 c.args.depth c.in_ok-a.ensures c.spaces_end-q.ensures on in
    omega (arith, behind.0.few)

pub alternation-overflow_add-q : goal.alternation-overflow_add-q
alternation-overflow_add-q m c =
    let on = stands c.args.s.now c.spaces_end-q.result 124 (omega arith) c.peek.ensures (sym c.if-eq.true ∙ c.eq.ensures) in
    let behind = alternation_next c.requires.0 c.args.depth c.in_ok-a.ensures c.spaces_end-q.ensures on in
    omega (arith, behind.0.in_text, behind.0.short)

pub alternation-alternation-requires : goal.alternation-alternation-requires
alternation-alternation-requires m c =
    let on = stands c.args.s.now c.spaces_end-q.result 124 (omega arith) c.peek.ensures (sym c.if-eq.true ∙ c.eq.ensures) in
    let behind = alternation_next c.requires.0 c.args.depth c.in_ok-a.ensures c.spaces_end-q.ensures on in
    (omega (arith, behind.1), (behind.0, c.requires.1))

pub alternation-returns-in_err-b : goal.alternation-returns-in_err-b
alternation-returns-in_err-b m c =
    let on = stands c.args.s.now c.spaces_end-q.result 124 (omega arith) c.peek.ensures (sym c.if-eq.true ∙ c.eq.ensures) in
    let p = err_from_is_err_and c.from_residual-in_err-b.result c.from_residual-in_err-b.ensures.1 in
    let whole = alternation_parts c.requires.0 c.args.depth c.in_ok-a.ensures c.spaces_end-q.ensures on in
    rw (p.1, p.2) (second_fault whole refl c.in_err-b.ensures refl)

pub alternation-either-piece-requires : goal.alternation-either-piece-requires
alternation-either-piece-requires m c =
    let on = stands c.args.s.now c.spaces_end-q.result 124 (omega arith) c.peek.ensures (sym c.if-eq.true ∙ c.eq.ensures) in
    let behind = alternation_next c.requires.0 c.args.depth c.in_ok-a.ensures c.spaces_end-q.ensures on in
    let held = alternation_held behind.0 c.args.depth c.in_ok-b.ensures in
    (omega (arith, held.few), omega (arith, held.few))

pub alternation-returns-then-eq : goal.alternation-returns-then-eq
alternation-returns-then-eq m c =
    let on = stands c.args.s.now c.spaces_end-q.result 124 (omega arith) c.peek.ensures (sym c.if-eq.true ∙ c.eq.ensures) in
    let whole = alternation_parts c.requires.0 c.args.depth c.in_ok-a.ensures c.spaces_end-q.ensures on in
    both_in_order whole refl c.in_ok-b.ensures refl c.either-piece.ensures

pub alternation-returns : goal.alternation-returns
alternation-returns m c =
    let on = stands c.args.s.now c.spaces_end-q.result 124 (omega arith) c.peek.ensures (sym c.if-eq.false ∙ c.eq.ensures) in
    first_alone (alternation_parts c.requires.0 c.args.depth c.in_ok-a.ensures c.spaces_end-q.ensures on) refl

pub atom-returns-then-depth-eq0 : goal.atom-returns-then-depth-eq0
unfolding refusal_of
atom-returns-then-depth-eq0 m c =
    let here : at c.args.s.now c.spaces_end-q.result ≡ 40 =
    at_some c.args.s.now c.spaces_end-q.result c.peek.ensures c.in-Some-eq40.is ∙ (omega arith) in
    atom_deep c.requires.0 c.args.depth c.spaces_end-q.ensures here c.if-depth-eq0.true refl

pub atom-overflow_add-q : goal.atom-overflow_add-q
atom-overflow_add-q m c =
    let here : at c.args.s.now c.spaces_end-q.result ≡ 40 =
    at_some c.args.s.now c.spaces_end-q.result c.peek.ensures c.in-Some-eq40.is ∙ (omega arith) in
    let behind = atom_next c.requires.0 c.spaces_end-q.ensures here in
    omega (arith, behind.0.in_text, behind.0.short)

pub atom-alternation-requires : goal.atom-alternation-requires
atom-alternation-requires m c =
    let here : at c.args.s.now c.spaces_end-q.result ≡ 40 =
    at_some c.args.s.now c.spaces_end-q.result c.peek.ensures c.in-Some-eq40.is ∙ (omega arith) in
    let behind = atom_next c.requires.0 c.spaces_end-q.ensures here in
    (omega (arith, behind.1), (behind.0, omega arith))

pub atom-returns-in_err-a-in-Some-eq40 : goal.atom-returns-in_err-a-in-Some-eq40
atom-returns-in_err-a-in-Some-eq40 m c =
    let here : at c.args.s.now c.spaces_end-q.result ≡ 40 =
    at_some c.args.s.now c.spaces_end-q.result c.peek.ensures c.in-Some-eq40.is ∙ (omega arith) in
    let p = err_from_is_err_and c.from_residual.result c.from_residual.ensures.1 in
    rw (p.1, p.2) (atom_group_stopped c.requires.0 c.args.depth c.spaces_end-q.ensures here c.if-depth-eq0.false refl c.in_err-a-in-Some-eq40.ensures)

pub atom-closed-requires : goal.atom-closed-requires
atom-closed-requires m c =
    let here : at c.args.s.now c.spaces_end-q.result ≡ 40 =
    at_some c.args.s.now c.spaces_end-q.result c.peek.ensures c.in-Some-eq40.is ∙ (omega arith) in
    let behind = atom_next c.requires.0 c.spaces_end-q.ensures here in
    (alternation_held behind.0 (c.args.depth - 1) c.in_ok-a-in-Some-eq40.ensures).inside

pub atom-returns-in_ok-a-in-Some-eq40 : goal.atom-returns-in_ok-a-in-Some-eq40
atom-returns-in_ok-a-in-Some-eq40 m c =
    let here : at c.args.s.now c.spaces_end-q.result ≡ 40 =
    at_some c.args.s.now c.spaces_end-q.result c.peek.ensures c.in-Some-eq40.is ∙ (omega arith) in
    atom_group c.requires.0 c.args.depth c.spaces_end-q.ensures here c.if-depth-eq0.false (c.closed.ensures _ _ _ c.in_ok-a-in-Some-eq40.ensures)

pub atom-name_atom-requires : goal.atom-name_atom-requires
atom-name_atom-requires m c = atom_here c.requires.0 c.spaces_end-q.ensures

pub atom-returns-in-Some : goal.atom-returns-in-Some
atom-returns-in-Some m c =
    let lower = sym c.is_lower.ensures ∙ c.if-is_lower.true in
    atom_name c.requires.0 c.args.depth c.spaces_end-q.ensures (rw (at_some _ _ c.peek.ensures c.in-Some.is) lower) c.name_atom.ensures

pub atom-returns-in_default : goal.atom-returns-in_default
atom-returns-in_default m c =
    let s = c.args.s.now in
    let q = c.spaces_end-q.result in
    elim c.in_default.branch [
      | atom-in_default-via-in-Some+else-is_lower w ↦
          let b = at_some s q c.peek.ensures w.in-Some.is in
          atom_unfit c.requires.0 c.args.depth c.spaces_end-q.ensures (rw b (sym w.is_lower.ensures ∙ w.if-is_lower.false)) (rw b (omega arith))
          (ap Err c.unfit.ensures)
      | atom-in_default-via-in_default w ↦
          let b = at_none s q c.peek.ensures w.in_default.is in
          atom_unfit c.requires.0 c.args.depth c.spaces_end-q.ensures (rw b) (rw b (omega arith)) (ap Err c.unfit.ensures)
    ]

pub sequence-returns-in_err-first : goal.sequence-returns-in_err-first
sequence-returns-in_err-first m c =
    let p = err_from_is_err_and c.from_residual.result c.from_residual.ensures.1 in
    rw (p.1, p.2) (sequence_stopped c.requires.0 c.args.depth c.in_err-first.ensures)

pub sequence-item-a-requires : goal.sequence-item-a-requires
sequence-item-a-requires m c = (atom_held c.requires.0 c.args.depth c.in_ok-first.ensures).inside

pub sequence-overflow_add-used : goal.sequence-overflow_add-used
sequence-overflow_add-used m c =
    let read = c.item-a.ensures (vars c.args.s.now c.args.t) c.args.used _ c.in_ok-first.ensures in
    let behind = sequence_next c.requires.0 c.args.depth read in
    omega (arith, behind.0.few)

pub sequence-sequence-requires : goal.sequence-sequence-requires
sequence-sequence-requires m c =
    let read = c.item-a.ensures (vars c.args.s.now c.args.t) c.args.used _ c.in_ok-first.ensures in
    let behind = sequence_next c.requires.0 c.args.depth read in
    (omega (arith, behind.1), (behind.0, c.requires.1))

pub sequence-returns-in_err-b : goal.sequence-returns-in_err-b
sequence-returns-in_err-b m c =
    let read = c.item-a.ensures (vars c.args.s.now c.args.t) c.args.used _ c.in_ok-first.ensures in
    let p = err_from_is_err_and c.from_residual-in_err-b.result c.from_residual-in_err-b.ensures.1 in
    let whole = sequence_parts c.requires.0 c.args.depth read c.begins_item.ensures in
    rw (p.1, p.2) (second_fault whole c.if-begins_item.true c.in_err-b.ensures refl)

pub sequence-sequence-piece-requires : goal.sequence-sequence-piece-requires
sequence-sequence-piece-requires m c =
    let read = c.item-a.ensures (vars c.args.s.now c.args.t) c.args.used _ c.in_ok-first.ensures in
    let behind = sequence_next c.requires.0 c.args.depth read in
    let held = sequence_held behind.0 c.args.depth c.in_ok-b.ensures in
    (omega (arith, held.few), omega (arith, held.few))

pub sequence-returns-then-begins_item : goal.sequence-returns-then-begins_item
sequence-returns-then-begins_item m c =
    let read = c.item-a.ensures (vars c.args.s.now c.args.t) c.args.used _ c.in_ok-first.ensures in
    let whole = sequence_parts c.requires.0 c.args.depth read c.begins_item.ensures in
    both_in_order whole c.if-begins_item.true c.in_ok-b.ensures refl c.sequence-piece.ensures

pub sequence-returns : goal.sequence-returns
sequence-returns m c =
    let read = c.item-a.ensures (vars c.args.s.now c.args.t) c.args.used _ c.in_ok-first.ensures in
    first_alone (sequence_parts c.requires.0 c.args.depth read c.begins_item.ensures) c.if-begins_item.false
