-- The words of this crate that public statements use by name, written out: lists, parts of lists, orders. Each is told in the kit's own words
-- alone, so that none can mean something else in a statement than it says here.
use mathlib.Core.Path.{◌≡◌, refl, sym, ◌∙◌}
use mathlib.Core.Bool.{Bool, true, false, ◌&&◌, ◌||◌}
use mathlib.Core.List.{List, [], ◌∷◌, ◌++◌}
use mathlib.Core.Logic.{◌↔◌}
use Prim.Native.Nat.{ℕ, suc, ◌-◌, Ordering}
use lib.ListN.{length, take, drop, replicate}
use Rattle.laws.specs.Lists.{any, all, keep, gather, numbers}
use Rattle.laws.specs.Order.{flip, IsOrder, lex}
use Rattle.laws.specs.Parts.{front, splice, pad}

-- some element passes, every one does, those that do; what is given for each, one behind the other
pub list_words : {A B : Type 0} (f : A → Bool) (g : A → List B) (x : A) (l : List A)
    → (any f [] ≡ false) × (any f (x ∷ l) ≡ (f x || any f l)) × (all f [] ≡ true) × (all f (x ∷ l) ≡ (f x && all f l))
    × (keep f [] ≡ []) × (f x ≡ true → keep f (x ∷ l) ≡ x ∷ keep f l) × (f x ≡ false → keep f (x ∷ l) ≡ keep f l)
    × (gather g [] ≡ []) × (gather g (x ∷ l) ≡ g x ++ gather g l)
list_words f g x l = (refl, refl, refl, refl, refl, λ h. rw h refl, λ h. rw h refl, refl, refl)

-- neighbouring numbers; a part written over; a list filled up to a length
pub part_words : {A : Type 0} (k n : ℕ) (d : A) (b l : List A)
    → (numbers k 0 ≡ []) × (numbers k (suc n) ≡ k ∷ numbers (suc k) n)
    × (splice n b l ≡ take n l ++ (b ++ drop (length b) (drop n l))) × (pad n d l ≡ l ++ replicate (n - length l) d)
unfolding splice front pad
part_words k n d b l = (refl, refl, refl, refl)

turned_back : (o : Ordering) → (o ≡ Ordering.gt) ↔ (flip o ≡ Ordering.lt)
turned_back Ordering.lt = (λ h. cc, λ h. cc)
turned_back Ordering.eq = (λ h. cc, λ h. cc)
turned_back Ordering.gt = (λ _. refl, λ _. refl)

-- what an order is: no difference just between equals, a behind b just where b is before a, and what is before what is before c is before c
pub order_words : {A : Type 0} {cmp : A → A → Ordering} → IsOrder cmp
    → ((a b : A) → (cmp a b ≡ Ordering.eq) ↔ (a ≡ b)) × ((a b : A) → (cmp a b ≡ Ordering.gt) ↔ (cmp b a ≡ Ordering.lt))
    × ((a b c : A) → cmp a b ≡ Ordering.lt → cmp b c ≡ Ordering.lt → cmp a c ≡ Ordering.lt)
order_words {cmp = cmp} o = (
  λ a b. (o.equal a b, λ e. rw (sym e) (o.self a)),
  λ a b. let t = turned_back (cmp a b) in (λ h. o.turned a b ∙ t.0 h, λ h. t.1 (sym (o.turned a b) ∙ h)),
  o.through,
)

-- the comparison of lists: element by element from the left, a list before any that it begins
pub lex_words : {A : Type 0} (cmp : A → A → Ordering) (x y : A) (k l : List A)
    → (lex cmp [] [] ≡ Ordering.eq) × (lex cmp [] (y ∷ l) ≡ Ordering.lt) × (lex cmp (x ∷ k) [] ≡ Ordering.gt)
    × (cmp x y ≡ Ordering.lt → lex cmp (x ∷ k) (y ∷ l) ≡ Ordering.lt) × (cmp x y ≡ Ordering.gt → lex cmp (x ∷ k) (y ∷ l) ≡ Ordering.gt)
    × (cmp x y ≡ Ordering.eq → lex cmp (x ∷ k) (y ∷ l) ≡ lex cmp k l)
lex_words cmp x y k l = (refl, refl, refl, λ h. rw h refl, λ h. rw h refl, λ h. rw h refl)
