-- Laws of the bounded skip sets: insertions one after the other give the set that is judged at the end, and a set is taken
-- through the constraints one at a time. For the code of the skip sets.
use mathlib.Core.Path.{◌≡◌, refl, ap, ap₂, ◌∙◌}
use mathlib.Core.Bool.{Bool, true, false, cond, ◌&&◌, and-true, and-false}
use mathlib.Core.List.{List, [], ◌∷◌, ◌++◌}
use Prim.Native.Nat.{◌<◌}
use native.Mathlib.Omega.{arith}
use lib.Dec.{leb}
use lib.ListN.{length}
use borrow.Author.Tests.{leb-false, lt-leb}
use Rattle.laws.specs.Lists.{all, gather}
use Rattle.laws.specs.Order.{ascending}
use Rattle.laws.specs.Sets.{insert, insert_all, Grown, full, grown, within}
use Rattle.laws.proofs.Lists.{and_true_split}
use Rattle.laws.proofs.Sets.{all_insert, all_insert_all, insert_ascending, set_of_self, set_of_ascending, length_insert_all}
use Rattle.meaning.specs.Events.{Constraint, never}
use Rattle.meaning.specs.Labels.{Disjunct, compare_disjuncts, skip_one, skip_by}
use Rattle.meaning.specs.Room.{held_limit, few_exclusions, set_room}
use Rattle.automaton.proofs.Orders.{disjunct_order}
use Rattle.bounded.specs.Bounded.{grow_few, skipped, skipped_through}

-- once full, full for good
pub few_full : (xs : List Disjunct) → grow_few xs full ≡ full
few_full [] = refl
few_full (x ∷ xs) = ap (grow_few xs) (either_way (few_exclusions x)) ∙ few_full xs
  where
    either_way : (b : Bool) → ◌≡◌ {A = Grown Disjunct} (cond b full full) full
    either_way true = refl
    either_way false = refl

pub few_append : (xs ys : List Disjunct) (g : Grown Disjunct) → grow_few (xs ++ ys) g ≡ grow_few ys (grow_few xs g)
few_append [] ys g = refl
few_append (x ∷ xs) ys g = few_append xs ys _

-- a set is judged by its size and by its elements
room_of : (l : List Disjunct) → leb (length l) held_limit ≡ true → all few_exclusions l ≡ true → set_room l ≡ true
unfolding set_room
room_of l h k = ap₂ ◌&&◌ h k

room_elements : (l : List Disjunct) → set_room l ≡ true → all few_exclusions l ≡ true
unfolding set_room
room_elements l h = (and_true_split (leb (length l) held_limit) _ h).1

no_room_size : (l : List Disjunct) → leb (length l) held_limit ≡ false → set_room l ≡ false
unfolding set_room
no_room_size l h = rw h

no_room_element : (l : List Disjunct) → all few_exclusions l ≡ false → set_room l ≡ false
unfolding set_room
no_room_element l h = rw h (and-false (leb (length l) held_limit))

-- a set where there is room for it
abbrev judged : List Disjunct → Grown Disjunct
judged r = cond (set_room r) (grown r) full

judged_refused : (r : List Disjunct) → set_room r ≡ false → full ≡ judged r
judged_refused r e = rw e

-- one insertion of more, by its two tests
module _ (x : Disjunct) (xs l k : List Disjunct) (h : set_room l ≡ true) (is : k ≡ insert compare_disjuncts x l) where
  elements : (b : Bool) → few_exclusions x ≡ b → all few_exclusions k ≡ b
  elements b e = rw is (all_insert disjunct_order few_exclusions x l ∙ ap₂ ◌&&◌ e (room_elements l h) ∙ and-true b)

  grow_size : few_exclusions x ≡ true → (set_room k ≡ true → grow_few xs (grown k) ≡ judged (insert_all compare_disjuncts xs k))
      → (b : Bool) → leb (length k) held_limit ≡ b → grow_few xs (cond b (grown k) full) ≡ judged (insert_all compare_disjuncts xs k)
  grow_size f ih true e = ih (room_of k e (elements true f))
  grow_size f ih false e =
      let r : List Disjunct = insert_all compare_disjuncts xs k in
      let over : held_limit < length r = omega (arith, leb-false (length k) held_limit e, length_insert_all disjunct_order xs k) in
      few_full xs ∙ judged_refused r (no_room_size r (lt-leb (length r) held_limit over))

  grow_one : (set_room k ≡ true → grow_few xs (grown k) ≡ judged (insert_all compare_disjuncts xs k))
      → (b : Bool) → few_exclusions x ≡ b → grow_few xs (cond b (within held_limit k) full) ≡ judged (insert_all compare_disjuncts xs k)
  grow_one ih true e = grow_size e ih (leb (length k) held_limit) refl
  grow_one ih false e =
      few_full xs ∙ judged_refused (insert_all compare_disjuncts xs k) (no_room_element (insert_all compare_disjuncts xs k)
      (all_insert_all disjunct_order few_exclusions xs k ∙ ap (λ b. all few_exclusions xs && b) (elements false e) ∙ and-false (all few_exclusions xs)))

pub grow_few_law : (xs l : List Disjunct) → set_room l ≡ true
    → grow_few xs (grown l) ≡ (let r = insert_all compare_disjuncts xs l in cond (set_room r) (grown r) full)
grow_few_law [] l h = rw h
grow_few_law (x ∷ xs) l h = let k = insert compare_disjuncts x l in grow_one x xs l k h refl (grow_few_law xs k) (few_exclusions x) refl

-- where all insertions had room, the first had
few_step : (x : Disjunct) (xs l k : List Disjunct) → grow_few (x ∷ xs) (grown l) ≡ grown k → grow_few xs (grown (insert compare_disjuncts x l)) ≡ grown k
few_step x xs l k = few (few_exclusions x)
  where
    size : (b : Bool) (j : List Disjunct) → grow_few xs (cond b (grown j) full) ≡ grown k → grow_few xs (grown j) ≡ grown k
    size true j e = e
    size false j e = cc (few_full xs)

    few : (b : Bool) → (let j = insert compare_disjuncts x l in grow_few xs (cond b (within held_limit j) full) ≡ grown k → grow_few xs (grown j) ≡ grown k)
    few true e = let j = insert compare_disjuncts x l in size (leb (length j) held_limit) j e
    few false e = cc (few_full xs)

-- what has grown in order is in order
pub few_ascending : (xs l k : List Disjunct) → ascending compare_disjuncts l ≡ true → grow_few xs (grown l) ≡ grown k
    → ascending compare_disjuncts k ≡ true
few_ascending [] l k h e = let s : l ≡ k = cc in rw (← s) h
few_ascending (x ∷ xs) l k h e =
    few_ascending xs (insert compare_disjuncts x l) k (insert_ascending disjunct_order x l h) (few_step x xs l k e)

-- the insertions of all that the disjuncts give are the set past the constraint
pub skipped_grow : (c : Constraint) (l : List Disjunct) → grow_few (gather (skip_one c) l) (grown []) ≡ skipped c l
unfolding skipped skip_by set_room
skipped_grow c l = grow_few_law (gather (skip_one c) l) [] refl

-- a judged set that there is room for, and one that there is none for
judged_grown : (r k : List Disjunct) (b : Bool) → cond b (grown r) full ≡ grown k → (b ≡ true) × (r ≡ k)
judged_grown r k true e = (refl, cc)
judged_grown r k false e = (cc, cc)

judged_full : (r : List Disjunct) (b : Bool) → cond b (grown r) full ≡ full → b ≡ false
judged_full r true e = cc
judged_full r false e = refl

pub through_none : (l : List Disjunct) → skipped_through [] l ≡ grown l
unfolding skipped_through
through_none l = refl

module _ (c : Constraint) (l : List Disjunct) where
  -- the set past c, where there is room for it
  skipped_is : (k : List Disjunct) → skipped c l ≡ grown k → (set_room (skip_by c l) ≡ true) × (skip_by c l ≡ k)
  unfolding skipped
  skipped_is k e = judged_grown (skip_by c l) k (set_room (skip_by c l)) e

  pub through_full : (cs : List Constraint) → skipped c l ≡ full → skipped_through (c ∷ cs) l ≡ full
  unfolding skipped skipped_through
  through_full cs e = rw (judged_full (skip_by c l) (set_room (skip_by c l)) e)

  pub through_grown : (cs : List Constraint) (k : List Disjunct) → skipped c l ≡ grown k → skipped_through (c ∷ cs) l ≡ skipped_through cs k
  unfolding skipped_through
  through_grown cs k e = let s = skipped_is k e in rw (s.0, s.1)

  -- a set past a constraint is in order and within the limits
  pub skipped_sound : (k : List Disjunct) → skipped c l ≡ grown k → (ascending compare_disjuncts k ≡ true) × (set_room k ≡ true)
  unfolding skip_by
  skipped_sound k e =
      let s = skipped_is k e in
      rw (← s.1) (set_of_ascending disjunct_order (gather (skip_one c) l), s.0)

-- a false constraint keeps each disjunct
gather_never : (l : List Disjunct) → gather (skip_one never) l ≡ l
gather_never [] = refl
gather_never (D ∷ l) = ap (λ k. D ∷ k) (gather_never l)

skipped_never : (l : List Disjunct) → ascending compare_disjuncts l ≡ true → set_room l ≡ true → skipped never l ≡ grown l
unfolding skipped skip_by
skipped_never l h k = rw (gather_never l, set_of_self disjunct_order l h, k)

pub through_never : (cs : List Constraint) (l : List Disjunct) → ascending compare_disjuncts l ≡ true → set_room l ≡ true
    → skipped_through (never ∷ cs) l ≡ skipped_through cs l
through_never cs l h k = through_grown never l cs l (skipped_never l h k)
