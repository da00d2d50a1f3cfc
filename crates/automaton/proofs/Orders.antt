-- The comparisons of disjuncts, of held disjuncts and of valuations are orders.
use mathlib.Core.Path.{◌≡◌, refl, ap₂}
use mathlib.Core.List.{[], ◌∷◌, map}
use Rattle.laws.specs.Order.{IsOrder}
use Rattle.laws.proofs.Order.{compare_order, lex_order, keys_order}
use Rattle.meaning.specs.Labels.{Entry, bound, free, Disjunct, value_key, exclusions, held_at, compare_disjuncts, compare_held}
use Rattle.meaning.specs.Rows.{compare_valuations}

-- value and exclusions decide an entry
entry_keys : (x y : Entry) → value_key x ≡ value_key y → exclusions x ≡ exclusions y → x ≡ y
entry_keys (bound a) (bound b) h k = cc
entry_keys (bound a) (free ys) h k = cc
entry_keys (free xs) (bound b) h k = cc
entry_keys (free xs) (free ys) h k = cc

disjunct_keys : (D E : Disjunct) → map value_key D ≡ map value_key E → map exclusions D ≡ map exclusions E → D ≡ E
disjunct_keys [] [] h k = refl
disjunct_keys [] (y ∷ E) h k = cc
disjunct_keys (x ∷ D) [] h k = cc
disjunct_keys (x ∷ D) (y ∷ E) h k = ap₂ ◌∷◌ (entry_keys x y (cc) (cc)) (disjunct_keys D E (cc) (cc))

pub disjunct_order : IsOrder compare_disjuncts
unfolding compare_disjuncts
disjunct_order = keys_order (map value_key) (map exclusions) (lex_order compare_order) (lex_order (lex_order compare_order)) disjunct_keys

pub held_order : IsOrder compare_held
held_order = keys_order (λ h. h.position) (λ h. h.disjunct) compare_order disjunct_order λ g h p q. ap₂ held_at p q

pub valuation_order : IsOrder compare_valuations
valuation_order = lex_order compare_order
