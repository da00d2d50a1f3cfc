-- What is accepted in a list: where the i-th of it stands, and that so much is accepted of the results as of the calls. For traces.
use mathlib.Core.Path.{◌≡◌, refl, sym, ap, ◌∙◌}
use mathlib.Core.Bool.{Bool, true, false, cond}
use mathlib.Core.List.{List, [], ◌∷◌, ◌++◌}
use Prim.Native.Nat.{ℕ, zero, suc}
use native.Mathlib.Omega.{arith}
use lib.ListN.{length, take}
use Rattle.laws.specs.Lists.{keep}
use Rattle.runs.specs.Runs.{Machine, results_from, Within}
use Rattle.runs.proofs.Runs.{within_head, within_tail, within_more, within_none}

-- element number i of what passes is x, which stands at `place` in the list, behind i that pass
pub record PassedAt {A : Type 0} (f : A → Bool) (l : List A) (i : ℕ) (x : A) : Type 0 where
  pub place : ℕ
  pub there : Within l place x
  pub passes : f x ≡ true
  pub before : length (keep f (take place l)) ≡ i
  pub upto : take (suc i) (keep f l) ≡ keep f (take place l) ++ (x ∷ [])

module _ {A : Type 0} (f : A → Bool) where
  pub passed_at : (l : List A) (i : ℕ) (x : A) → Within (keep f l) i x → PassedAt f l i x
  passed_at [] i x w = absurd (within_none w)
  passed_at (y ∷ l) i x w = go (f y) refl i w (passed_at l)
    where
      -- the same of the rest, with y in front, which passes or not
      further : (b : Bool) → f y ≡ b → {j : ℕ} → PassedAt f l j x → PassedAt f (y ∷ l) (cond b (suc j) j) x
      further b e {j} r = record {
        place = suc r.place;
        there = within_more y r.there;
        passes = r.passes;
        before = rw e (count b);
        upto = rw e (go b);
      }
        where
          count : (b : Bool) → length (cond b (y ∷ keep f (take r.place l)) (keep f (take r.place l))) ≡ cond b (suc j) j
          count true = ap suc r.before
          count false = r.before

          go : (b : Bool) → take (suc (cond b (suc j) j)) (cond b (y ∷ keep f l) (keep f l))
              ≡ cond b (y ∷ keep f (take r.place l)) (keep f (take r.place l)) ++ (x ∷ [])
          go true = ap (y ∷◌) r.upto
          go false = r.upto

      go : (b : Bool) → f y ≡ b → (i : ℕ) → Within (cond b (y ∷ keep f l) (keep f l)) i x
          → ((j : ℕ) (z : A) → Within (keep f l) j z → PassedAt f l j z) → PassedAt f (y ∷ l) i x
      go true e zero w ih =
          let same = within_head w in
          record {
            place = 0;
            there = record { inside = omega arith; at = λ d. sym same };
            passes = ap f same ∙ e;
            before = refl;
            upto = rw (e, same) refl;
          }
      go true e (suc i) w ih = further true e (ih i x (within_tail w))
      go false e i w ih = further false e (ih i x w)

  -- what stands at a place and passes is so many-th of what passes
  pub passed_there : (l : List A) (k : ℕ) (x : A) → Within l k x → f x ≡ true → Within (keep f l) (length (keep f (take k l))) x
  passed_there [] k x w h = absurd (within_none w)
  passed_there (y ∷ l) zero x w h =
      let same = within_head w in
      let e : f y ≡ true = ap f (sym same) ∙ h in
      rw e (record { inside = omega arith; at = λ d. sym same })
  passed_there (y ∷ l) (suc k) x w h = go (f y) refl (passed_there l k x (within_tail w) h)
    where
      go : (b : Bool) → f y ≡ b → Within (keep f l) (length (keep f (take k l))) x
          → Within (cond b (y ∷ keep f l) (keep f l)) (length (cond b (y ∷ keep f (take k l)) (keep f (take k l)))) x
      go true e v = within_more y v
      go false e v = v

module _ {S C R : Type 0} (m : Machine S C R) (takes : R → Bool) (told : C → Bool) (tells : (s : S) (c : C) → takes (m.gives s c) ≡ told c) where
  -- a call tells by itself whether it is accepted: as much is accepted of the results as of the calls
  pub as_many : (s : S) (cs : List C) → length (keep takes (results_from m s cs)) ≡ length (keep told cs)
  as_many s [] = refl
  as_many s (c ∷ cs) = rw (tells s c) (go (told c) (as_many (m.leaves (m.gives s c)) cs))
    where
      rest : List R
      rest = keep takes (results_from m (m.leaves (m.gives s c)) cs)

      go : (b : Bool) → length rest ≡ length (keep told cs)
          → length (cond b (m.gives s c ∷ rest) rest) ≡ length (cond b (c ∷ keep told cs) (keep told cs))
      go true h = ap suc h
      go false h = h
