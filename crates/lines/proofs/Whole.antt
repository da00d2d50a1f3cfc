-- The steps of the reader of all lines, as the code takes them.
use mathlib.Core.Path.{◌≡◌, refl, sym, ap, ap₂, ◌∙◌}
use mathlib.Core.Bool.{true, false, cond}
use mathlib.Core.List.{[]}
use Prim.Native.Nat.{ℕ, ◌-◌, ◌≤◌, zero-le}
use native.Mathlib.Omega.{arith}
use borrow.Author.Tests.{eq-eqb, ne_eqb}
use lib.Dec.{eqb}
use lib.ListN.{length}
use Rattle.form.specs.Text.{Bytes, vars_word}
use Rattle.form.specs.Form.{same_word}
use Rattle.form.specs.Scan.{fail, part, word_end}
use Rattle.form.specs.Lines as Lines
use Rattle.form.specs.Lines.{Variables, variables_from, no_table, lines_from, lines_of}
use Rattle.table.specs.Tables.{table_of, view_table, Ready}
use Rattle.table.specs.declared.Table.{Table}
use Rattle.std.specs.Prelude.{Ok, Err}
use Rattle.text.specs.declared.Refusal.{Refusal}
use Rattle.text.proofs.Steps.{brought_ok, brought_err}
use Rattle.lines.specs.declared.LinesRead.{LinesRead}
use Rattle.lines.specs.Results.{lines_read, variables_read}
use Rattle.lines.proofs.Gaps.{word_within}
use Rattle.lines.proofs.Sound.{bare, variables_ready, VariablesSound, variables_sound}

-- all lines, with room for so many variables and symbols: at numbers the calls would compute
lines_in : (few many : ℕ) → Bytes → Lines.Lines
lines_in few many s =
    let e = word_end s 0 in
    let v = variables_from s few [] e in
    let rest = lines_from s many (bare v.spans) v.step.place in
    let lines = cond (eqb v.step.fault 0) rest (record { step = v.step; table = no_table }) in
    cond (same_word (part s 0 e) vars_word) lines (record { step = fail 2 0; table = no_table })

lines_in_law : (s : Bytes) {few many : ℕ} → few ≡ 4 → many ≡ 16 → lines_of s ≡ lines_in few many s
unfolding lines_of lines_in
lines_in_law s f m = ap₂ (λ a b. lines_in a b s) (sym f) (sym m)

-- the empty table is ready
module _ {t : Table} (none : t ≡ table_of no_table) where
  pub none_count : t.count ≡ 0
  unfolding table_of
  none_count = ap (λ u. u.count) none

  none_room : 4 - t.variables ≡ 4
  unfolding table_of
  none_room = omega (arith, ap (λ u. u.variables) none)

  pub none_ready : (s : Bytes) → Ready s t
  none_ready s = rw none (variables_ready s [] zero-le refl).0

-- Lines where the first word ends at e.
module _ (s : Bytes) {e : ℕ} (ends : e ≡ word_end s 0) {t : Table} (none : t ≡ table_of no_table) where
  vars_not : (few many : ℕ) → same_word (part s 0 e) vars_word ≡ false → lines_in few many s ≡ record { step = fail 2 0; table = no_table }
  unfolding lines_in
  vars_not few many h = rw (← ends, h)

  pub vars_wrong : same_word (part s 0 e) vars_word ≡ false → lines_of s ≡ record { step = fail 2 0; table = no_table }
  vars_wrong h = lines_in_law s refl refl ∙ vars_not 4 16 h

  -- what is read of variables behind it
  abbrev vars : Variables
  vars = variables_from s (4 - t.variables) [] e

  pub vars_read_law : variables_read (variables_from s (4 - t.variables) (view_table t).variables e) ≡ variables_read vars
  vars_read_law =
      let z = ap view_table none ∙ (variables_ready s [] zero-le refl).1 in
      ap (λ (u : Lines.Table). variables_read (variables_from s (4 - t.variables) u.variables e)) z

  vars_sound : VariablesSound s 4 vars
  vars_sound = variables_sound s 4 (4 - t.variables) [] e (word_within s 0 e ends zero-le).1 (omega arith) refl

  -- where the first word is `vars`
  module _ (h : same_word (part s 0 e) vars_word ≡ true) where
    vars_failed : (many : ℕ) → (vars.step.fault ≡ 0 → ⊥) → lines_in (4 - t.variables) many s ≡ record { step = vars.step; table = no_table }
    unfolding lines_in
    vars_failed many f = rw (← ends, h, ne_eqb _ 0 f)

    vars_found : (many : ℕ) → vars.step.fault ≡ 0 → lines_in (4 - t.variables) many s ≡ lines_from s many (bare vars.spans) vars.step.place
    unfolding lines_in
    vars_found many f = rw (← ends, h, eq-eqb _ 0 f)

    pub vars_stopped : {r : Refusal} → Err r ≡ variables_read vars → Err (record { refusal = r; table = t }) ≡ lines_read (lines_of s)
    vars_stopped i =
        let (f, k) = brought_err vars.step _ i in
        rw (lines_in_law s (none_room none) refl, vars_failed 16 f, ne_eqb vars.step.fault 0 f)
        (ap₂ (λ (e : Refusal) (u : Table). Err (record { refusal = e; table = u })) k none)

    -- and v is what was read
    module _ {v : LinesRead} (reads : Ok v ≡ variables_read vars) where
      vars_is : (vars.step.fault ≡ 0) × (v ≡ record { place = vars.step.place; table = table_of (bare vars.spans) })
      vars_is = brought_ok vars.step _ reads

      vars_coded : Ready s v.table × (view_table v.table ≡ bare vars.spans)
      vars_coded = rw (ap (λ q. q.table) vars_is.1) (variables_ready s vars.spans vars_sound.few vars_sound.in_text)

      pub vars_ready : Ready s v.table × (v.place ≤ length s)
      vars_ready = (vars_coded.0, rw (ap (λ q. q.place) vars_is.1) vars_sound.place)

      pub vars_read : lines_of s ≡ lines_from s (16 - v.table.count) (view_table v.table) v.place
      unfolding table_of
      vars_read =
          let k : v.table.count ≡ 0 = ap (λ q. q.table.count) vars_is.1 in
          lines_in_law s (none_room none) (omega arith) ∙ vars_found (16 - v.table.count) vars_is.0
          ∙ rw (vars_coded.1, ap (λ q. q.place) vars_is.1)
