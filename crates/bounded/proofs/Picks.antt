-- What is held as positions, masks and disjuncts side by side: labels, sources and step sets are picked from the disjuncts.
-- For the crates step, skip, advance and collect, which hold them so.
use mathlib.Core.Path.{◌≡◌, refl, ap, ◌∙◌}
use mathlib.Core.Bool.{Bool, true, false, cond}
use mathlib.Core.List.Memᴰ
use mathlib.Core.List.{List, [], ◌∷◌, map, Memᴰ}
use mathlib.Core.Logic.{⊎_elim}
use Prim.Native.Nat.{ℕ, zero, suc, ◌≤◌, ◌<◌}
use native.Mathlib.Omega.{arith}
use lib.Dec.{eqb}
use lib.ListN.{length, drop, get_or}
use lib.Seq.{drop-nil}
use Rattle.laws.specs.Bits.{bit}
use Rattle.laws.specs.Lists.{keep}
use Rattle.laws.proofs.Lists.{eqb_swap}
use Rattle.meaning.specs.Events.{Event, constraint_of}
use Rattle.meaning.specs.Book.{Book, begins_at, followers, symbol_of}
use Rattle.meaning.specs.Labels.{Disjunct, Held, held_at, label_of, sources, step_set, held_of}
use Rattle.meaning.specs.Wide.{wide_book}
use Rattle.bounded.specs.Bounded.{pick, with_start, met_list, met_set}

module _ {A B : Type 0} where
  -- a picked element stands in the list
  pub pick_keeps : (f : A → Bool) (k : List A) (l : List B) (x : B) → Memᴰ x (pick f k l) → Memᴰ x l
  pick_keeps f [] l x m = absurd (Memᴰ.not-nil m)
  pick_keeps f (a ∷ k) [] x m = m
  pick_keeps f (a ∷ k) (y ∷ l) x m = go (f a) (pick_keeps f k l x) m
    where
      go : (t : Bool) → (Memᴰ x (pick f k l) → Memᴰ x l) → Memᴰ x (cond t (y ∷ pick f k l) (pick f k l)) → Memᴰ x (y ∷ l)
      go true ih n = ⊎_elim Memᴰ.head (λ i. Memᴰ.tail (ih i)) (Memᴰ.cases_cons n)
      go false ih n = Memᴰ.tail (ih n)

  -- no more are picked than there are
  pub pick_length : (f : A → Bool) (k : List A) (l : List B) → length (pick f k l) ≤ length l
  pick_length f [] l = omega arith
  pick_length f (a ∷ k) [] = omega arith
  pick_length f (a ∷ k) (y ∷ l) = go (f a) (pick_length f k l)
    where
      go : (t : Bool) → length (pick f k l) ≤ length l → length (cond t (y ∷ pick f k l) (pick f k l)) ≤ suc (length l)
      go true h = omega arith
      go false h = omega arith

  pub pick_agree : (f g : A → Bool) → ((x : A) → f x ≡ g x) → (k : List A) (l : List B) → pick f k l ≡ pick g k l
  pick_agree f g h [] l = refl
  pick_agree f g h (x ∷ k) [] = refl
  pick_agree f g h (x ∷ k) (y ∷ l) = rw (h x, pick_agree f g h k l)

pub pick_map : {A B C : Type 0} (f : B → Bool) (g : A → B) (k : List A) (l : List C) → pick f (map g k) l ≡ pick (λ x. f (g x)) k l
pick_map f g [] l = refl
pick_map f g (x ∷ k) [] = refl
pick_map f g (x ∷ k) (y ∷ l) = rw (pick_map f g k l)

-- what is picked from number i on, by the first of it; a key that is not there is one that does not pass
pub pick_next : {B : Type 0} (f : ℕ → Bool) → f 0 ≡ false → (i : ℕ) (k : List ℕ) (l : List B) (d : B) → i < length l
    → let r = pick f (drop (suc i) k) (drop (suc i) l) in pick f (drop i k) (drop i l) ≡ cond (f (get_or k i 0)) (get_or l i d ∷ r) r
pick_next f z i k [] d h = absurd (omega arith)
pick_next f z i [] (y ∷ l) d h = rw (drop-nil i, z)
pick_next f z zero (x ∷ k) (y ∷ l) d h = refl
pick_next f z (suc i) (x ∷ k) (y ∷ l) d h = pick_next f z i k l d (omega arith)

-- the disjuncts of what is held
abbrev disjuncts : List Held → List Disjunct
disjuncts held = map (λ h. h.disjunct) held

disjuncts_cond : (t : Bool) (h : Held) (held : List Held) → disjuncts (cond t (h ∷ held) held) ≡ cond t (h.disjunct ∷ disjuncts held) (disjuncts held)
disjuncts_cond true h held = refl
disjuncts_cond false h held = refl

-- those at the positions that pass
held_pick : (f : ℕ → Bool) (ps : List ℕ) (l : List Disjunct) → disjuncts (keep (λ (h : Held). f h.position) (held_of ps l)) ≡ pick f ps l
held_pick f [] l = refl
held_pick f (p ∷ ps) [] = refl
held_pick f (p ∷ ps) (D ∷ l) =
    disjuncts_cond (f p) (held_at p D) (keep (λ (h : Held). f h.position) (held_of ps l)) ∙ ap (λ r. cond (f p) (D ∷ r) r) (held_pick f ps l)

pub label_pick : (ps : List ℕ) (l : List Disjunct) (p : ℕ) → label_of (held_of ps l) p ≡ pick (eqb p) ps l
label_pick ps l p = held_pick (λ x. eqb x p) ps l ∙ pick_agree (λ x. eqb x p) (eqb p) (λ x. eqb_swap x p) ps l

pub sources_pick : (b : Book) (ps : List ℕ) (l : List Disjunct) (q : ℕ)
    → sources (wide_book b) (held_of ps l) q ≡ with_start (begins_at b q) (pick (λ m. bit q m) (map (followers b) ps) l)
unfolding sources wide_book with_start
sources_pick b ps l q = rw (held_pick (λ p. bit q (followers b p)) ps l, pick_map (λ m. bit q m) (followers b) ps l)

pub step_met : (b : Book) (ps : List ℕ) (l : List Disjunct) (e : Event) (q : ℕ)
    → step_set (wide_book b) (held_of ps l) e q ≡ met_set (constraint_of (symbol_of b q) e) (with_start (begins_at b q) (pick (λ m. bit q m) (map (followers b) ps) l))
unfolding step_set met_set met_list wide_book
step_met b ps l e q = rw (sources_pick b ps l q)
