-- The new labels appended position by position, full once a room rule is broken: together they are all new labels where there
-- is room, and full where there is none. And the label of a position ascends. For the crate advance.
use mathlib.Core.Path.{◌≡◌, refl, sym, ap, ap₂, ◌∙◌}
use mathlib.Core.Bool.{Bool, true, false, cond, ◌&&◌, and-false}
use mathlib.Core.List.{List, [], ◌∷◌, ◌++◌, map, append_assoc, append-nil}
use Prim.Native.Nat.{ℕ, ◌≤◌, ◌<◌, compare}
use native.Mathlib.Omega.{arith}
use lib.Dec.{eqb, leb}
use lib.ListN.{length, length-map, length-append}
use borrow.Author.Tests.{eqb-true, leb-true, leb-false, le-leb, lt-leb}
use Rattle.laws.specs.Lists.{all, keep, gather}
use Rattle.laws.specs.Order.{and_then, ascending}
use Rattle.laws.specs.Sets.{insert_all, Grown, full, grown, within}
use Rattle.laws.proofs.Lists.{and_true_split, mem_keep}
use Rattle.laws.proofs.Order.{compare_order}
use Rattle.laws.proofs.Sets.{keep_ascending}
use Rattle.laws.proofs.Maps.{ascending_map}
use Rattle.meaning.specs.Events.{Event, constraint_of}
use Rattle.meaning.specs.Book.{Book, positions, begins_at, followers, goes_on, symbol_of}
use Rattle.meaning.specs.Labels.{Disjunct, Held, held_at, label_of, compare_disjuncts, compare_held, step_set, skip_set, new_label, new_held, held_of}
use Rattle.meaning.specs.Room.{held_limit, skip_room, room}
use Rattle.meaning.specs.Sound.{sound_piece, sound_held}
use Rattle.automaton.proofs.Orders.{held_order}
use Rattle.meaning.specs.Wide.{wide_book}
use Rattle.bounded.specs.Bounded.{labelled, appended}
use Rattle.bounded.proofs.Picks.{label_pick, step_met}

-- a label over the limit is over it behind other labels too
appended_within : (q : ℕ) (h : List Held) (l : List Disjunct) → appended q h (within held_limit l) ≡ within held_limit (h ++ map (held_at q) l)
appended_within q h l = go (leb (length l) held_limit) refl
  where
    go : (t : Bool) → leb (length l) held_limit ≡ t → appended q h (cond t (grown l) full) ≡ within held_limit (h ++ map (held_at q) l)
    go true e = refl
    go false e =
        let over : held_limit < length (h ++ map (held_at q) l) =
        omega (arith, leb-false (length l) held_limit e, length-append h (map (held_at q) l), length-map l (held_at q)) in
        rw (lt-leb (length (h ++ map (held_at q) l)) held_limit over)

module _ (b : Book) (held : List Held) (e : Event) where
  -- the two room rules of one position
  abbrev step_fits : ℕ → Bool
  step_fits q = leb (length (step_set b held e q)) held_limit

  abbrev skip_fits : ℕ → Bool
  skip_fits q = skip_room (map (λ s. constraint_of s e) b.symbols) (label_of held q)

  -- the new label of position q, or no room for one of its sets
  unfoldable pub label_at : ℕ → Grown Disjunct
  label_at q =
      cond (step_fits q && skip_fits q) (cond (goes_on b q) (within held_limit (insert_all compare_disjuncts (skip_set b held e q) (step_set b held e q))) (grown []))
      full

  -- the labels of positions put behind what is held so far; once full, full for good
  abbrev pub label_behind : ℕ → Grown Held → Grown Held
  label_behind q full = full
  label_behind q (grown h) = appended q h (label_at q)

  abbrev pub advanced : List ℕ → Grown Held → Grown Held
  advanced [] g = g
  advanced (q ∷ qs) g = advanced qs (label_behind q g)

  pub advanced_full : (qs : List ℕ) → advanced qs full ≡ full
  advanced_full [] = refl
  advanced_full (q ∷ qs) = advanced_full qs

  -- with both rules kept, it is the new label if that is within the limit
  label_fits : (q : ℕ) → cond (goes_on b q) (within held_limit (insert_all compare_disjuncts (skip_set b held e q) (step_set b held e q))) (grown [])
      ≡ within held_limit (new_label b held e q)
  unfolding new_label
  label_fits q = go (goes_on b q)
    where
      go : (t : Bool) → let l = insert_all compare_disjuncts (skip_set b held e q) (step_set b held e q) in
          cond t (within held_limit l) (grown []) ≡ within held_limit (cond t l [])
      go true = refl
      go false = refl

  -- the new labels of some positions
  abbrev labels : List ℕ → List Held
  labels qs = gather (λ p. map (held_at p) (new_label b held e p)) qs

  -- what comes of some positions, by the room rules
  abbrev outcome : List ℕ → List Held → Grown Held
  outcome qs l = cond (all step_fits qs && all skip_fits qs && leb (length l) held_limit) (grown l) full

  outcome_none : (qs : List ℕ) (l : List Held) → held_limit < length l → outcome qs l ≡ full
  outcome_none qs l h = rw (lt-leb (length l) held_limit h, and-false)

  -- the rest of the positions, after a test of what is held so far
  advanced_tested : (q : ℕ) (qs : List ℕ) (h : List Held) → let k : List Held = h ++ map (held_at q) (new_label b held e q) in
      (t : Bool) → leb (length k) held_limit ≡ t → (length k ≤ held_limit → advanced qs (grown k) ≡ outcome qs (k ++ labels qs))
      → advanced qs (cond t (grown k) full) ≡ outcome qs (h ++ labels (q ∷ qs))
  advanced_tested q qs h true r ih =
      let k : List Held = h ++ map (held_at q) (new_label b held e q) in
      ih (leb-true (length k) held_limit r) ∙ ap (outcome qs) (append_assoc h (map (held_at q) (new_label b held e q)) (labels qs))
  advanced_tested q qs h false r ih =
      let l : List Held = map (held_at q) (new_label b held e q) in
      let over : held_limit < length (h ++ (l ++ labels qs)) =
      omega (arith, leb-false (length (h ++ l)) held_limit r, length-append h l, length-append h (l ++ labels qs), length-append l (labels qs)) in
      advanced_full qs ∙ sym (outcome_none qs (h ++ (l ++ labels qs)) over)

  advanced_outcome : (qs : List ℕ) (h : List Held) → length h ≤ held_limit → advanced qs (grown h) ≡ outcome qs (h ++ labels qs)
  unfolding label_at
  advanced_outcome [] h k = rw (append-nil, le-leb (length h) held_limit k)
  advanced_outcome (q ∷ qs) h k = go (step_fits q) (skip_fits q) (advanced_outcome qs (h ++ map (held_at q) (new_label b held e q)))
    where
      go : (s t : Bool)
          → let r : List Held = h ++ map (held_at q) (new_label b held e q) in (length r ≤ held_limit → advanced qs (grown r) ≡ outcome qs (r ++ labels qs))
          → advanced qs (appended q h (cond (s && t)
          (cond (goes_on b q) (within held_limit (insert_all compare_disjuncts (skip_set b held e q) (step_set b held e q))) (grown [])) full))
          ≡ cond (s && all step_fits qs && (t && all skip_fits qs) && leb (length (h ++ labels (q ∷ qs))) held_limit) (grown (h ++ labels (q ∷ qs))) full
      go true true ih =
          ap (λ g. advanced qs (appended q h g)) (label_fits q) ∙ ap (advanced qs) (appended_within q h (new_label b held e q))
          ∙ advanced_tested q qs h _ refl ih
      go true false ih = rw (and-false) (advanced_full qs)
      go false t ih = advanced_full qs

  -- all new labels where no room rule is broken, and full where one is
  pub advanced_all : advanced (positions b) (grown []) ≡ cond (room b held e) (grown (new_held b held e)) full
  unfolding room new_held
  advanced_all = advanced_outcome (positions b) [] (omega arith)

-- the label of a position by the lists that the code holds
pub labelled_at : (b : Book) (ps : List ℕ) (l : List Disjunct) (e : Event) (q : ℕ)
    → labelled (constraint_of (symbol_of b q) e) (map (λ s. constraint_of s e) b.symbols) (begins_at b q) (goes_on b q) q ps (map (followers b) ps) l
    ≡ label_at (wide_book b) (held_of ps l) e q
unfolding labelled label_at skip_set wide_book
labelled_at b ps l e q = rw (step_met b ps l e q, label_pick ps l q)

-- the label of a position ascends where what is held does
pub label_ascending : (b : Book) (held : List Held) (p : ℕ) → sound_held b held ≡ true → ascending compare_disjuncts (label_of held p) ≡ true
unfolding sound_held
label_ascending b held p h =
    ascending_map compare_disjuncts (λ x. x.disjunct) (λ x. x.position ≡ p) held_order same (keep here held)
    (λ x m. eqb-true x.position p ((mem_keep here x held).0 m).1)
    ∙ keep_ascending held_order here held (and_true_split (leb (length held) held_limit && all (sound_piece b) held) (ascending compare_held held) h).1
  where
    here : Held → Bool
    here x = eqb x.position p

    same : (x y : Held) → x.position ≡ p → y.position ≡ p → compare_disjuncts x.disjunct y.disjunct ≡ compare_held x y
    same x y i j = sym (ap₂ (λ (m n : ℕ). and_then (compare m n) (compare_disjuncts x.disjunct y.disjunct)) i j
        ∙ ap (λ c. and_then c (compare_disjuncts x.disjunct y.disjunct)) (compare_order.self p))
