-- Masks of the variables that parameters bind, joined one by one.
use mathlib.Core.Path.{◌≡◌, sym, ap, ◌∙◌}
use mathlib.Core.Bool.{or_assoc}
use mathlib.Core.List.{List, [], ◌∷◌}
use Prim.Native.Nat.{ℕ}
use Rattle.laws.specs.Bits.{bit, join, single}
use Rattle.laws.proofs.Bits.{bit_join, bits_equal, join_none, none_join}
use Rattle.meaning.specs.Events.{Parameter, ignored, names, fixed}
use Rattle.meaning.specs.Book.{bound_in}

join_assoc : (a b c : ℕ) → join (join a b) c ≡ join a (join b c)
join_assoc a b c =
    bits_equal (join (join a b) c) (join a (join b c)) (λ p. simp bit_join (or_assoc (bit p a) (bit p b) (bit p c)))

bound_cons : (p : Parameter) (ps : List Parameter) → bound_in (p ∷ ps) ≡ join (bound_in (p ∷ [])) (bound_in ps)
bound_cons ignored ps = sym (none_join (bound_in ps))
bound_cons (fixed n) ps = sym (none_join (bound_in ps))
bound_cons (names v) ps = ap (λ m. join m (bound_in ps)) (sym (join_none (single v)))

-- the mask r of the first parameter, joined to m before the masks of the others
pub join_next : (m : ℕ) {r : ℕ} {p : Parameter} {ps l : List Parameter} → r ≡ bound_in (p ∷ []) → l ≡ p ∷ ps → join (join m r) (bound_in ps) ≡ join m (bound_in l)
join_next m {p = p} {ps} e f = rw (e, f) (join_assoc m (bound_in (p ∷ [])) (bound_in ps) ∙ ap (join m) (sym (bound_cons p ps)))
