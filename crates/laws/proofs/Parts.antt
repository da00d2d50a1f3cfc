-- Laws of splices and of padding.
use mathlib.Core.Path.{◌≡◌, refl, sym, ap, ap₂, subst, ◌∙◌}
use mathlib.Core.Bool.{Bool, true, ◌&&◌}
use mathlib.Core.List.{List, [], ◌∷◌, ◌++◌, map, map-append, append_assoc, append-nil}
use mathlib.Core.List.Memᴰ
use mathlib.Core.List.{Memᴰ}
use mathlib.Core.Logic.{⊎_elim}
use Prim.Native.Nat.{ℕ, suc, ◌+◌, ◌-◌, ◌≤◌, ◌<◌}
use native.Mathlib.Omega.{arith}
use native.Mathlib.Nat.{add_assoc}
use native.Mathlib.Numerals.{add-one}
use lib.ListN.{length, take, drop, get_or, set, replicate, length-map, length-append, length-take, length-drop, length-replicate, take-append-drop}
use lib.ListN.{get_or-replicate, get_or-append}
use lib.Seq.{ext_get_or, length-take-le, take-suc, set_at, take_at, drop_at, take-append_seam, get_or-append-add, get_or-take, get_or-drop, drop-drop}
use Rattle.laws.specs.Lists.{all}
use Rattle.laws.specs.Parts.{front, splice, pad}
use Rattle.laws.proofs.Lists.{all_append}
use Rattle.laws.proofs.Maps.{map_replicate, all_replicate}

module _ {A : Type 0} where
  -- the element i of two lists is the element j of the second
  get_d_past : (l m : List A) (i j : ℕ) (d : A) → length l + j ≡ i → get_or (l ++ m) i d ≡ get_or m j d
  get_d_past l m i j d e = rw (← e) (get_or-append-add l m j d)

  pub splice_length : (p : ℕ) (b l : List A) → p + length b ≤ length l → length (splice p b l) ≡ length l
  unfolding splice front
  splice_length p b l h = simp (length-append, length-take, length-drop) (omega arith)

  -- outside the part nothing changes
  pub splice_before : (p : ℕ) (b l : List A) (i : ℕ) (d : A) → p ≤ length l → i < p → get_or (splice p b l) i d ≡ get_or l i d
  unfolding splice
  splice_before p b l i d h k = get_or-append (take p l) _ d i (omega (arith, length-take-le p l h)) ∙ get_or-take p l i d k

  pub splice_after : (p : ℕ) (b l : List A) (i : ℕ) (d : A) → p + length b ≤ length l → p + length b ≤ i → get_or (splice p b l) i d ≡ get_or l i d
  unfolding splice front
  splice_after p b l i d h k =
      let t = length-take p l in
      let j = i - p - length b in
      let e : p + (length b + j) ≡ i = omega arith in
      get_d_past (take p l) _ i (length b + j) d (omega arith) ∙ get_or-append-add b _ j d ∙ simp (get_or-drop, e)

  -- inside it b stands
  pub splice_within : (p : ℕ) (b l : List A) (i : ℕ) (d : A) → p ≤ length l → i < length b → get_or (splice p b l) (p + i) d ≡ get_or b i d
  unfolding splice front
  splice_within p b l i d h k = get_d_past (take p l) _ (p + i) i d (omega (arith, length-take-le p l h)) ∙ get_or-append b _ d i k

  pub splice_nothing : (p : ℕ) (l : List A) → splice p [] l ≡ l
  unfolding splice front
  splice_nothing p l = take-append-drop p l

  -- one splice right behind another is one splice
  pub splice_append : (p : ℕ) (a b l : List A) → p + length a + length b ≤ length l → splice (p + length a) b (splice p a l) ≡ splice p (a ++ b) l
  unfolding splice front
  splice_append p a b l h =
      let e : length (take p l ++ a) ≡ p + length a = simp (length-append, length-take) (omega arith) in
      rw (← append_assoc (take p l) a, take_at, drop_at) (simp (append_assoc, length-append, drop-drop, add_assoc))

  pub pad_length : (n : ℕ) (d : A) (l : List A) → length l ≤ n → length (pad n d l) ≡ n
  unfolding pad
  pad_length n d l h = simp (length-append, length-replicate) (omega arith)

  pub pad_take : (n : ℕ) (d : A) (l : List A) → take (length l) (pad n d l) ≡ l
  unfolding pad
  pad_take n d l = take-append_seam l _

  pub pad_at : (n : ℕ) (d : A) (l : List A) (i : ℕ) (e : A) → i < length l → get_or (pad n d l) i e ≡ get_or l i e
  unfolding pad
  pad_at n d l i e h = get_or-append l _ e i h

  pub pad_beyond : (n : ℕ) (d : A) (l : List A) (i : ℕ) (e : A) → length l ≤ i → i < n → get_or (pad n d l) i e ≡ d
  unfolding pad
  pad_beyond n d l i e h k = get_d_past l _ i (i - length l) e (omega arith) ∙ get_or-replicate (n - length l) (i - length l) d e (omega arith)

  -- lists of one length with equal paddings are equal
  pub pad_equal : (n : ℕ) (d : A) (a b : List A) → length a ≡ length b → pad n d a ≡ pad n d b → a ≡ b
  pad_equal n d a b h e = sym (pad_take n d a) ∙ ap₂ take h e ∙ pad_take n d b

  -- a list that is long enough is padded with nothing
  pub pad_full : (n : ℕ) (d : A) (l : List A) → n ≤ length l → pad n d l ≡ l
  unfolding pad
  pad_full n d l h = let z : n - length l ≡ 0 = omega arith in rw z (append-nil l)

  -- what has n elements once it is padded had no more before
  pub pad_few : (n : ℕ) (d : A) (l : List A) → length (pad n d l) ≡ n → length l ≤ n
  unfolding pad
  pad_few n d l h = omega (arith, h, length-append l (replicate (n - length l) d))

  -- an element put behind those that are there takes the place of a filler
  pub pad_more : (n : ℕ) (d : A) (l : List A) (x : A) → length l < n → set (pad n d l) (length l) x ≡ pad n d (l ++ x ∷ [])
  unfolding pad
  pad_more n d l x h =
      let e : n - length l ≡ suc (n - length (l ++ x ∷ [])) = omega (arith, length-append l (x ∷ [])) in
      ap (λ k. set (l ++ replicate k d) (length l) x) e ∙ set_at l d _ x (length l) refl ∙ sym (append_assoc l (x ∷ []) _)

  -- the first i elements, padded, and element i in its place: the first i + 1, padded
  pub pad_next : (n : ℕ) (d : A) (l : List A) (i : ℕ) (e : A) → i < length l → i < n
      → set (pad n d (take i l)) i (get_or l i e) ≡ pad n d (take (i + 1) l)
  pad_next n d l i e h g =
      let k = length-take-le i l (omega arith) in
      ap (λ j. set (pad n d (take i l)) j (get_or l i e)) (sym k) ∙ pad_more n d (take i l) (get_or l i e) (omega arith)
      ∙ ap (pad n d) (sym (take-suc l i e h) ∙ ap (λ j. take j l) (sym (add-one i)))

pub map_pad : {A B : Type 0} (f : A → B) (n : ℕ) (d : A) (l : List A) → map f (pad n d l) ≡ pad n (f d) (map f l)
unfolding pad
map_pad f n d l =
    map-append f l (replicate (n - length l) d)
    ∙ ap (map f l ++◌) (map_replicate f (n - length l) d ∙ ap (λ k. replicate (n - k) (f d)) (sym (length-map l f)))

-- what is so of each element and of the padding is so in the padded list, as a test and as a proposition
pub all_pad : {A : Type 0} (f : A → Bool) (n : ℕ) (d : A) (l : List A) → f d ≡ true → all f l ≡ true → all f (pad n d l) ≡ true
unfolding pad
all_pad f n d l h k = all_append f l (replicate (n - length l) d) ∙ ap₂ ◌&&◌ k (all_replicate f (n - length l) d h)

pub mem_pad : {A : Type 0} (P : A → Type 0) (n : ℕ) (d : A) (l : List A) → P d → ((x : A) → Memᴰ x l → P x) → (x : A) → Memᴰ x (pad n d l) → P x
unfolding pad
mem_pad {A = A} P n d l h k x m = ⊎_elim (k x) (λ r. subst P (sym (copies (n - length l) r)) h) (Memᴰ.append_cases l m)
  where
    copies : {x : A} (n : ℕ) → Memᴰ x (replicate n d) → x ≡ d
    copies Prim.Native.Nat.zero x3 = elim x3 [ ]
    copies (suc n) (Memᴰ.head e) = e
    copies (suc n) (Memᴰ.tail r) = copies n r

-- two padded lists agree behind what they are padded of
pub pads_agree : {A : Type 0} (n : ℕ) (d : A) (a b : List A) (m : ℕ) → length a ≤ m → length b ≤ m → m ≤ n → drop m (pad n d a) ≡ drop m (pad n d b)
pads_agree n d a b m h k u =
    let p = pad n d a in
    let q = pad n d b in
    let lp : length p ≡ n = pad_length n d a (omega arith) in
    let lq : length q ≡ n = pad_length n d b (omega arith) in
    ext_get_or d (drop m p) (drop m q) (omega (arith, length-drop m p, length-drop m q))
    λ i g. get_or-drop m p i d ∙ pad_beyond n d a (m + i) d (omega arith) (omega (arith, length-drop m p))
    ∙ sym (get_or-drop m q i d ∙ pad_beyond n d b (m + i) d (omega arith) (omega (arith, length-drop m p)))
