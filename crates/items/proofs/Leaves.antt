-- Results of reading a pattern: what an `Ok` and an `Err` say of the plain result that they stand for; and a byte compared.
use mathlib.Core.Path.{◌≡◌, refl, sym, ap, ◌∙◌}
use mathlib.Core.Bool.{Bool, cond, not, true, false}
use Prim.Native.Nat.{ℕ, suc, ◌<◌}
use native.Mathlib.Omega.{arith}
use lib.Dec.{eqb}
use borrow.Author.Tests.{ne_eqb}
use Rattle.std.specs.Prelude.{Result, Ok, Err, Option, Some, slice_get}
use Rattle.std.specs.Option.{option_eq}
use Rattle.form.specs.Text.{Bytes}
use Rattle.form.specs.Scan.{at}
use Rattle.form.specs.Parse as Parse
use Rattle.text.proofs.Runs.{peek_law}
use Rattle.text.specs.declared.Refusal.{Refusal}
use Rattle.text.specs.Refusals.{refusal_of}
use Rattle.piece.specs.Pieces.{piece_of}
use Rattle.items.specs.declared.Parsed.{Parsed}
use Rattle.items.specs.Results.{parsed_of}

-- what an `Ok` stands for: no fault, the place, and the fragment of the tree
pub record Good (vars : ℕ → ℕ) (used : ℕ) (a : Parsed) (x : Parse.Parsed) : Type 0 where
  pub fault : eqb x.step.fault 0 ≡ true
  pub place : a.place ≡ x.step.place
  pub piece : a.piece ≡ piece_of vars x.tree (suc used)

-- what an `Err` stands for
pub record Bad (e : Refusal) (x : Parse.Parsed) : Type 0 where
  pub fault : eqb x.step.fault 0 ≡ false
  pub refusal : e ≡ refusal_of x.step.fault x.step.place

module _ (vars : ℕ → ℕ) (used : ℕ) (x : Parse.Parsed) where
  pub good : {a : Parsed} → Ok a ≡ parsed_of vars used x → Good vars used a x
  unfolding parsed_of
  good {a} h = by (eqb x.step.fault 0) refl
    where
      by : (b : Bool) → eqb x.step.fault 0 ≡ b → Good vars used a x
      by true k =
          let i = rw k at h in
          let e : a ≡ record { place = x.step.place; piece = piece_of vars x.tree (suc used) } = cc in
          record { fault = k; place = ap (λ z. z.place) e; piece = ap (λ z. z.piece) e }
      by false k = let i = rw k at h in absurd (cc)

  pub bad : {e : Refusal} → Err e ≡ parsed_of vars used x → Bad e x
  unfolding parsed_of
  bad {e} h = by (eqb x.step.fault 0) refl
    where
      by : (b : Bool) → eqb x.step.fault 0 ≡ b → Bad e x
      by true k = let i = rw k at h in absurd (cc)
      by false k = let i = rw k at h in record { fault = k; refusal = cc }

  pub bad_parsed : {e : Refusal} → Bad e x → Err e ≡ parsed_of vars used x
  unfolding parsed_of
  bad_parsed b = rw (b.fault, b.refusal)

-- a token that cannot stand
pub unfit_parsed : (vars : ℕ → ℕ) (used : ℕ) (s : Bytes) (q : ℕ)
    → ◌≡◌ {A = Result Parsed Refusal} (Err (refusal_of (Parse.unfit s q).fault q)) (parsed_of vars used (Parse.failed (Parse.unfit s q)))
unfolding parsed_of
unfit_parsed vars used s q = rw (ne_eqb _ 0 (go (eqb (at s q) 256)))
  where
    go : (b : Bool) → ◌≡◌ {A = ℕ} (cond b 2 6) 0 → ⊥
    go true = omega arith
    go false = omega arith

-- whether the byte b stands at q, by a comparison of what is read there
pub stands : (s : Bytes) (q b : ℕ) → b < 256 → {o : Option ℕ} {t : Bool} → o ≡ slice_get s q → t ≡ option_eq eqb o (Some b) → eqb (at s q) b ≡ t
stands s q b h r e = sym (peek_law s q b (ne_eqb 256 b (omega arith))) ∙ sym (e ∙ ap (λ o. option_eq eqb o (Some b)) r)

-- the same where `!=` has compared, with the answer u
pub differs : (s : Bytes) (q b : ℕ) → b < 256 → {o : Option ℕ} {t u : Bool} → o ≡ slice_get s q → t ≡ not (option_eq eqb o (Some b)) → t ≡ u
    → eqb (at s q) b ≡ not u
differs s q b h {o} {t} {u} r e f = stands s q b h r (by (option_eq eqb o (Some b)) (sym f ∙ e))
  where
    by : (v : Bool) → u ≡ not v → not u ≡ v
    by true i = rw i
    by false i = rw i
