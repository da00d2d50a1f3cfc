-- What is known of the names of a ready table, and of an answer that leaves it as it was.
use mathlib.Core.Path.{◌≡◌, refl, ap, ◌∙◌}
use mathlib.Core.Bool.{Bool, true, false, cond}
use mathlib.Core.List.{map, map-append}
use Prim.Native.Nat.{ℕ, ◌+◌, ◌-◌, ◌≤◌}
use native.Mathlib.Omega.{arith}
use borrow.Author.Tests.{le-leb, eqb-true, ne_eqb}
use lib.Dec.{eqb}
use lib.ListN.{length, take, drop, length-map, length-take, length-append}
use lib.Seq.{take-add}
use Rattle.std.specs.Prelude.{Result, Ok, Err}
use Rattle.std.proofs.lemmas.Bool.{eqb-false}
use Rattle.laws.specs.Lists.{all}
use Rattle.laws.proofs.Lists.{all_append, and_true_split}
use Rattle.form.specs.Text.{Bytes}
use Rattle.form.specs.Scan.{Step}
use Rattle.form.specs.Lines as Lines
use Rattle.text.specs.declared.Refusal.{Refusal}
use Rattle.text.specs.Refusals.{refusal_of}
use Rattle.text.specs.Steps.{brought}
use Rattle.table.specs.Tables.{table_of, span_of, view_table, inside, Ready}
use Rattle.table.proofs.Codes.{names_all, ready_fits}
use Rattle.table.specs.declared.Table.{Table}
use Rattle.lines.specs.declared.LinesRead.{LinesRead}
use Rattle.lines.specs.declared.LinesRefused.{LinesRefused}
use Rattle.lines.specs.Results.{variables_read, lines_read}
use Rattle.lines.proofs.Args.{variables_length}

pub span_inside : (s : Bytes) (q e : ℕ) → q ≤ e → e ≤ length s → inside (length s) (Lines.span_of q e) ≡ true
span_inside s q e h l = le-leb (q + (e - q)) (length s) (omega arith)

pub count_length : {s : Bytes} {t : Table} → Ready s t → t.count ≡ length (view_table t).table
unfolding table_of
count_length r = ap (λ u. u.count) r.coded

-- of the first names of a ready table too, all are inside the text
pub names_inside : (s : Bytes) (t : Table) → Ready s t → (to : ℕ) → to ≤ t.variables + t.count
    → all (inside (length s)) (map span_of (take to t.names)) ≡ true
names_inside s t r to h =
    let f = inside (length s) in
    let rest = t.variables + t.count - to in
    let e : t.variables + t.count ≡ to + rest = omega arith in
    let a = map span_of (take to t.names) in
    let b = map span_of (take rest (drop to t.names)) in
    let w : all f (map span_of (take (to + rest) t.names)) ≡ true = rw (← e, names_all) r.in_text in
    (and_true_split (all f a) (all f b) (rw (take-add, map-append, all_append) at w)).0

-- and they are as many as were asked for
pub names_length : (s : Bytes) (t : Table) → Ready s t → (to : ℕ) → to ≤ t.variables + t.count → length (map span_of (take to t.names)) ≡ to
names_length s t r to h =
    let f = ready_fits s t r in
    let n = simp (length-map, length-take, length-append) at (ap length (names_all t)) in
    simp (length-map, length-take) (omega (arith, n, variables_length r, count_length r))

-- an answer with the table as it was, in what was read: of variables, where it has no symbols, and of lines
pub variables_kept : (s : Bytes) (t : Table) → Ready s t → t.count ≡ 0 → {x : Step} {v : Lines.Variables}
    → v ≡ record { step = x; spans = (view_table t).variables } → brought x (record { place = x.place; table = t }) ≡ variables_read v
unfolding view_table
variables_kept s t r e {x} h = rw h (ap (λ (u : Table). brought x (record { place = x.place; table = u })) (r.coded ∙ rw e))

-- the lines' answer to the step x, with the table t
abbrev pub lines_answer : Step → Table → Result LinesRead LinesRefused
lines_answer x t =
    cond (eqb x.fault 0) (Ok (record { place = x.place; table = t })) (Err (record { refusal = refusal_of x.fault x.place; table = t }))

pub lines_kept : (s : Bytes) (t : Table) → Ready s t → {x : Step} {l : Lines.Lines} → l ≡ record { step = x; table = view_table t }
    → lines_answer x t ≡ lines_read l
lines_kept s t r {x} h = rw h (ap (lines_answer x) r.coded)

pub lines_refused : (s : Bytes) (t : Table) → Ready s t → {x : Step} {l : Lines.Lines} → l ≡ record { step = x; table = view_table t }
    → (x.fault ≡ 0 → ⊥) → {e : Refusal} → e ≡ refusal_of x.fault x.place → Err (record { refusal = e; table = t }) ≡ lines_read l
lines_refused s t r {x} h f i = rw (ne_eqb x.fault 0 f, ← i) at (lines_kept s t r {x = x} h)

-- what the answer says of the lines
module _ (l : Lines.Lines) where
  pub lines_ok : {v : LinesRead} → Ok v ≡ lines_read l → (l.step.fault ≡ 0) × (v ≡ record { place = l.step.place; table = table_of l.table })
  lines_ok {v} h = by (eqb l.step.fault 0) refl
    where
      by : (b : Bool) → eqb l.step.fault 0 ≡ b → (l.step.fault ≡ 0) × (v ≡ record { place = l.step.place; table = table_of l.table })
      by true k = let i = rw k at h in (eqb-true l.step.fault 0 k, cc)
      by false k = let i = rw k at h in absurd (cc)

  pub lines_err : {e : LinesRefused} → Err e ≡ lines_read l
      → (l.step.fault ≡ 0 → ⊥) × (e ≡ record { refusal = refusal_of l.step.fault l.step.place; table = table_of l.table })
  lines_err {e} h = by (eqb l.step.fault 0) refl
    where
      by : (b : Bool) → eqb l.step.fault 0 ≡ b
          → (l.step.fault ≡ 0 → ⊥) × (e ≡ record { refusal = refusal_of l.step.fault l.step.place; table = table_of l.table })
      by true k = let i = rw k at h in absurd (cc)
      by false k = let i = rw k at h in (eqb-false l.step.fault 0 k, cc)
