-- Laws of a step of the reader as the code has it: what its `Ok` and its `Err` say of the plain step, for the readers above.
use mathlib.Core.Path.{◌≡◌, refl, sym, ap₂}
use mathlib.Core.Bool.{Bool, true, false}
use Prim.Native.Nat.{ℕ}
use borrow.Author.Tests.{eqb-true, ne_eqb}
use lib.Dec.{eqb}
use Rattle.std.specs.Prelude.{Result, Ok, Err}
use Rattle.std.proofs.lemmas.Bool.{eqb-false}
use Rattle.form.specs.Scan.{Step, go}
use Rattle.text.specs.declared.Refusal.{Refusal}
use Rattle.text.specs.Refusals.{refusal_of}
use Rattle.text.specs.Steps.{brought, step_of}

module _ {A : Type 0} (x : Step) (a : A) where
  pub brought_ok : {b : A} → Ok b ≡ brought x a → (x.fault ≡ 0) × (b ≡ a)
  brought_ok {b} h = by (eqb x.fault 0) refl
    where
      by : (c : Bool) → eqb x.fault 0 ≡ c → (x.fault ≡ 0) × (b ≡ a)
      by true k = let i = rw k at h in (eqb-true x.fault 0 k, cc)
      by false k = let i = rw k at h in absurd (cc)

  pub brought_err : {e : Refusal} → Err e ≡ brought x a → (x.fault ≡ 0 → ⊥) × (e ≡ refusal_of x.fault x.place)
  brought_err {e} h = by (eqb x.fault 0) refl
    where
      by : (b : Bool) → eqb x.fault 0 ≡ b → (x.fault ≡ 0 → ⊥) × (e ≡ refusal_of x.fault x.place)
      by true k = let i = rw k at h in absurd (cc)
      by false k = let i = rw k at h in (eqb-false x.fault 0 k, cc)

  -- a step that is refused is so whatever it would have brought
  pub brought_other : {e : Refusal} → Err e ≡ brought x a → {B : Type 0} (b : B) → ◌≡◌ {A = Result B Refusal} (Err e) (brought x b)
  brought_other h b = let (f, i) = brought_err h in rw (ne_eqb x.fault 0 f, i)

pub step_ok : (x : Step) {q : ℕ} → Ok q ≡ step_of x → x ≡ go q
step_ok x h = let (f, p) = brought_ok x x.place h in ap₂ (λ f p. record { fault = f; place = p }) f (sym p)

pub step_err : (x : Step) {e : Refusal} → Err e ≡ step_of x → (x.fault ≡ 0 → ⊥) × (e ≡ refusal_of x.fault x.place)
step_err x h = brought_err x x.place h
