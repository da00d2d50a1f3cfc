-- How far a run of bytes goes, in std's word; what a byte read at a place says of what stands there.
use mathlib.Core.Path.{◌≡◌, refl, sym, ap, ◌∙◌}
use mathlib.Core.Bool.{false, Bool, cond}
use mathlib.Core.List.{[], ◌∷◌}
use Prim.Native.Nat.{ℕ, zero, suc, ◌<◌}
use mir.Val.{Fits}
use mir.Syntax.{w8}
use native.Mathlib.Omega.{arith}
use lib.Dec.{eqb}
use lib.ListN.{get_or}
use Rattle.std.specs.Prelude.{Option, Some, None, slice_get}
use Rattle.std.specs.List.{prefix_len}
use Rattle.std.specs.Option.{unwrap_or, option_eq}
use Rattle.std.proofs.lemmas.Option.{get_or_from_slice_get, unwrap_or-slice_get}
use Rattle.form.specs.Text.{Bytes}
use Rattle.form.specs.Scan.{at, past_end, run}

pub run_law : (f : ℕ → Bool) (s : Bytes) → prefix_len f s ≡ run f s
run_law f [] = refl
run_law f (b ∷ s) = ap (λ n. cond (f b) n 0) (omega (arith, run_law f s))

-- a byte read at p stands there; where none is read, the text has ended
pub at_some : (s : Bytes) (p : ℕ) {o : Option ℕ} {b : ℕ} → o ≡ slice_get s p → o ≡ Some b → at s p ≡ b
at_some s p {o} {b} read e = get_or_from_slice_get s p b past_end (sym read ∙ e)

pub at_none : (s : Bytes) (p : ℕ) {o : Option ℕ} → o ≡ slice_get s p → o ≡ None → at s p ≡ past_end
at_none s p read e = sym (unwrap_or-slice_get s p past_end) ∙ ap (λ r. unwrap_or r past_end) (sym read ∙ e)

-- whether the byte read at p is b, as `==` tells it
pub peek_law : (s : Bytes) (p b : ℕ) → eqb past_end b ≡ false → option_eq eqb (slice_get s p) (Some b) ≡ eqb (at s p) b
peek_law [] p b h = sym h
peek_law (x ∷ s) zero b h = refl
peek_law (x ∷ s) (suc p) b h = peek_law s p b h

-- a byte read is a byte
pub byte_small : (s : Bytes) → ((i : ℕ) → Fits w8 (get_or s i 0)) → (p : ℕ) {o : Option ℕ} {b : ℕ} → o ≡ slice_get s p → o ≡ Some b → b < 256
byte_small s known p {o} {b} read e = omega (arith, known p, get_or_from_slice_get s p b 0 (sym read ∙ e))
