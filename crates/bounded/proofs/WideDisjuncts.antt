-- One disjunct made four wide: comparing, meeting, skipping, counting exclusions and reading its row commute with that, as
-- long as demands name only variables that the disjunct has. For the sets in Wide.
use mathlib.Core.Path.{◌≡◌, refl, sym, ap, ap₂, ◌∙◌}
use mathlib.Core.Bool.{Bool, true, false, cond, ◌&&◌, and-true}
use mathlib.Core.List.{List, [], ◌∷◌, ◌++◌, map, map-append, map-map}
use Prim.Native.Nat.{ℕ, ◌+◌, ◌-◌, ◌≤◌, ◌<◌, compare}
use native.Mathlib.Omega.{arith}
use lib.Dec.{leb, ltb}
use lib.ListN.{length, take, set, replicate, length-map, length-set, length-replicate, replicate-append-replicate}
use lib.Seq.{set-append_left}
use borrow.Author.Tests.{ltb-true}
use Rattle.laws.specs.Lists.{all, keep}
use Rattle.laws.specs.Order.{and_then, lex}
use Rattle.laws.specs.Parts.{pad}
use Rattle.laws.proofs.Lists.{and_true_split, all_append, all_at, keep_agree, mem_keep}
use Rattle.laws.proofs.Order.{compare_order, lex_order}
use Rattle.laws.proofs.Parts.{pad_at, pad_length, pad_take}
use Rattle.laws.proofs.Maps.{map_agree, map_replicate, all_replicate, lex_followed}
use Rattle.meaning.specs.Events.{Demand, Constraint, never, demands, Valuation}
use Rattle.meaning.specs.Labels.{Entry, bound, free, Disjunct, free_disjunct, entry_of, is_free, admits, value_key, exclusions, compare_disjuncts}
use Rattle.meaning.specs.Labels.{bind, meets_all, met_all, meets, met, excluding, exclude, skip_one}
use Rattle.meaning.specs.Room.{exclusion_limit, few_exclusions}
use Rattle.meaning.specs.Rows.{value_of, valuation_of, compare_valuations}
use Rattle.meaning.specs.Sound.{sound_entry}
use Rattle.automaton.proofs.Fits.{in_range}
use Rattle.meaning.specs.Wide.{wide, wide_valuation}

pub wide_length : (D : Disjunct) → length D ≤ 4 → length (wide D) ≡ 4
unfolding wide
wide_length D h = pad_length 4 (free []) D h

pub wide_take : (n : ℕ) (D : Disjunct) → length D ≡ n → take n (wide D) ≡ D
unfolding wide
wide_take n D h = rw (← h) (pad_take 4 (free []) D)

-- the same entries behind two disjuncts of one length
keys_followed : (D E r : Disjunct) → length D ≡ length E → compare_disjuncts (D ++ r) (E ++ r) ≡ compare_disjuncts D E
unfolding compare_disjuncts
keys_followed D E r h =
    ap₂ and_then
    (ap₂ (lex compare) (map-append value_key D r) (map-append value_key E r)
    ∙ lex_followed compare_order (map value_key D) (map value_key E) (map value_key r) (simp length-map h))
    (ap₂ (lex (lex compare)) (map-append exclusions D r) (map-append exclusions E r)
    ∙ lex_followed (lex_order compare_order) (map exclusions D) (map exclusions E) (map exclusions r) (simp length-map h))

pub wide_compare : (D E : Disjunct) → length D ≡ length E → compare_disjuncts (wide D) (wide E) ≡ compare_disjuncts D E
unfolding wide pad
wide_compare D E h = rw h (keys_followed D E (replicate (4 - length E) (free [])) h)

pub wide_valuation_compare : (σ τ : Valuation) → length σ ≡ length τ → compare_valuations (wide_valuation σ) (wide_valuation τ) ≡ compare_valuations σ τ
unfolding wide_valuation pad
wide_valuation_compare σ τ h = rw h (lex_followed compare_order σ τ (replicate (4 - length τ) 0) h)

-- a test that an entry with nothing bound and nothing excluded passes
wide_all : (f : Entry → Bool) → f (free []) ≡ true → (D : Disjunct) → all f (wide D) ≡ all f D
unfolding wide pad
wide_all f h D = all_append f D _ ∙ ap (all f D &&◌) (all_replicate f (4 - length D) (free []) h) ∙ and-true (all f D)

pub wide_few : (D : Disjunct) → few_exclusions (wide D) ≡ few_exclusions D
wide_few D = wide_all (λ x. leb (length (exclusions x)) exclusion_limit) refl D

pub wide_entries : (D : Disjunct) → all sound_entry (wide D) ≡ all sound_entry D
wide_entries D = wide_all sound_entry refl D

pub wide_free_disjunct : (n : ℕ) → n ≤ 4 → free_disjunct 4 ≡ wide (free_disjunct n)
unfolding wide pad
wide_free_disjunct n h =
    let e : 4 ≡ n + (4 - n) = omega arith in
    ap free_disjunct e ∙ sym (replicate-append-replicate n (4 - n) (free []))
    ∙ ap (λ k. free_disjunct n ++ free_disjunct (4 - k)) (sym (length-replicate n (free [])))

pub wide_valuation_law : (D : Disjunct) → valuation_of (wide D) ≡ wide_valuation (valuation_of D)
unfolding wide wide_valuation pad
wide_valuation_law D =
    map-append value_of D _
    ∙ ap (valuation_of D ++◌) (map_replicate value_of (4 - length D) (free []) ∙ ap (λ k. replicate (4 - k) 0) (sym (length-map D value_of)))

-- one variable of D read and written
module _ (D : Disjunct) (v : ℕ) (h : v < length D) where
  wide_entry : entry_of (wide D) v ≡ entry_of D v
  unfolding wide
  wide_entry = pad_at 4 (free []) D v (free []) h

  wide_set : (x : Entry) → set (wide D) v x ≡ wide (set D v x)
  unfolding wide pad
  wide_set x = set-append_left D _ v x h ∙ ap (λ k. set D v x ++ replicate (4 - k) (free [])) (sym (length-set D v x))

-- demands on the first n variables only, as `in_range` asks
abbrev within : ℕ → List Demand → Bool
within n ds = all (λ d. ltb d.variable n) ds

module _ (n : ℕ) where
  wide_bind : (D : Disjunct) (d : Demand) → length D ≡ n → ltb d.variable n ≡ true → bind (wide D) d ≡ wide (bind D d)
  wide_bind D d h k = wide_set D d.variable (rw h (ltb-true d.variable n k)) (bound d.value)

  wide_at : (D : Disjunct) (d : Demand) → length D ≡ n → ltb d.variable n ≡ true → entry_of (wide D) d.variable ≡ entry_of D d.variable
  wide_at D d h k = wide_entry D d.variable (rw h (ltb-true d.variable n k))

  wide_meets_all : (D : Disjunct) (ds : List Demand) → length D ≡ n → within n ds ≡ true → meets_all (wide D) ds ≡ meets_all D ds
  wide_meets_all D [] h k = refl
  wide_meets_all D (d ∷ ds) h k =
      let s = and_true_split (ltb d.variable n) (within n ds) k in
      ap₂ ◌&&◌ (ap (λ x. admits x d.value) (wide_at D d h s.0))
      (ap (λ E. meets_all E ds) (wide_bind D d h s.0) ∙ wide_meets_all (bind D d) ds (length-set D _ _ ∙ h) s.1)

  wide_met_all : (D : Disjunct) (ds : List Demand) → length D ≡ n → within n ds ≡ true → met_all (wide D) ds ≡ wide (met_all D ds)
  wide_met_all D [] h k = refl
  wide_met_all D (d ∷ ds) h k =
      let s = and_true_split (ltb d.variable n) (within n ds) k in
      ap (λ E. met_all E ds) (wide_bind D d h s.0) ∙ wide_met_all (bind D d) ds (length-set D _ _ ∙ h) s.1

  wide_exclude : (D : Disjunct) (d : Demand) → length D ≡ n → ltb d.variable n ≡ true → exclude (wide D) d ≡ wide (exclude D d)
  wide_exclude D d h k =
      ap (λ x. set (wide D) d.variable (excluding x d.value)) (wide_at D d h k)
      ∙ wide_set D d.variable (rw h (ltb-true d.variable n k)) _

  pub wide_meets : (D : Disjunct) (c : Constraint) → length D ≡ n → in_range n c ≡ true → meets (wide D) c ≡ meets D c
  wide_meets D never h k = refl
  wide_meets D (demands ds) h k = wide_meets_all D ds h k

  pub wide_met : (D : Disjunct) (c : Constraint) → length D ≡ n → in_range n c ≡ true → met (wide D) c ≡ wide (met D c)
  wide_met D never h k = refl
  wide_met D (demands ds) h k = wide_met_all D ds h k

  pub wide_skip : (D : Disjunct) (c : Constraint) → length D ≡ n → in_range n c ≡ true → skip_one c (wide D) ≡ map wide (skip_one c D)
  wide_skip D never h k = refl
  wide_skip D (demands ds) h k =
      ap₂ (λ t l. cond t (map (exclude (wide D)) l) (wide D ∷ [])) (wide_meets_all D ds h k)
      (keep_agree (λ d. is_free (entry_of (wide D) d.variable)) opens ds (λ d m. ap is_free (wide_at D d h (all_at _ k m))))
      ∙ go (meets_all D ds)
    where
      opens : Demand → Bool
      opens d = is_free (entry_of D d.variable)

      go : (t : Bool) → cond t (map (exclude (wide D)) (keep opens ds)) (wide D ∷ []) ≡ map wide (cond t (map (exclude D) (keep opens ds)) (D ∷ []))
      go true =
          map_agree (exclude (wide D)) (λ d. wide (exclude D d)) (keep opens ds)
          (λ d m. wide_exclude D d h (all_at (λ c. ltb c.variable n) k ((mem_keep opens d ds).0 m).0))
          ∙ sym (map-map wide (exclude D) (keep opens ds))
      go false = refl
