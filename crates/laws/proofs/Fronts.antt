-- A list written over from its front: one element more, one part more right behind, and a part that was lent. For the loops that write
-- rows (writer) and lent words (blocks, book_block, state_block), and for the parts that these lend.
use mathlib.Core.Path.{◌≡◌, refl, sym, ap, ap₂, ◌∙◌}
use mathlib.Core.List.{List, [], ◌∷◌, ◌++◌, append_assoc, append-nil, Memᴰ}
use Prim.Native.Nat.{ℕ, ◌+◌, ◌-◌, ◌*◌, ◌≤◌, ◌<◌}
use native.Mathlib.Nat.{zero-add, mul_comm}
use native.Mathlib.Numerals.{add-one}
use native.Mathlib.Omega.{arith}
use borrow.Rule.Slice.PartMut.{mid_of, put_mid}
use lib.ListN.{length, take, drop, get_or, set, length-append, length-drop, get_or-append}
use lib.Seq.{sets, sets-eq, take_all, take-suc, take_at, drop_at, length-take-le, drop-length, drop-append-le, get_or-append-add, get_or-drop, paste-suc}
use Rattle.laws.specs.Lists.{gather}
use Rattle.laws.specs.Parts.{front, splice}
use Rattle.laws.proofs.Lists.{mem_get_or, mem_take}
use Rattle.laws.proofs.Parts.{splice_append}

module _ {A : Type 0} where
  pub front_nothing : (l : List A) → front [] l ≡ l
  unfolding front
  front_nothing l = refl

  -- one element more of b
  pub front_next : (b l : List A) (i : ℕ) (d : A) → i < length b → i < length l → set (front (take i b) l) i (get_or b i d) ≡ front (take (i + 1) b) l
  unfolding front
  front_next b l i d h k =
      let now : length (take i b) ≡ i = length-take-le i b (omega arith) in
      let more : length (take (i + 1) b) ≡ i + 1 = length-take-le (i + 1) b (omega arith) in
      rw (now, more, add-one i) (simp zero-add at (paste-suc l 0 b i d (omega arith) h))

  -- all of b
  pub front_all : (b l : List A) (i : ℕ) → length b ≤ i → front (take i b) l ≡ front b l
  front_all b l i h = ap (λ r. front r l) (take_all i b h)

  -- all of the list
  pub front_whole : (b l : List A) → length b ≡ length l → front b l ≡ b
  unfolding front
  front_whole b l h = ap (λ n. b ++ drop n l) h ∙ ap (λ r. b ++ r) (drop-length l) ∙ append-nil b

  pub front_length : (b l : List A) → length b ≤ length l → length (front b l) ≡ length l
  unfolding front
  front_length b l h = omega (arith, length-append b (drop (length b) l), length-drop (length b) l)

  -- an element of what is written, and one behind it
  pub front_within : (b l : List A) (i : ℕ) (d : A) → i < length b → get_or (front b l) i d ≡ get_or b i d
  unfolding front
  front_within b l i d h = get_or-append b (drop (length b) l) d i h

  pub front_behind : (b l : List A) (i : ℕ) (d : A) → length b ≤ i → get_or (front b l) i d ≡ get_or l i d
  unfolding front
  front_behind b l i d h =
      let j = i - length b in
      let e : i ≡ length b + j = omega arith in
      ap (λ n. get_or (b ++ drop (length b) l) n d) e ∙ get_or-append-add b (drop (length b) l) j d ∙ get_or-drop (length b) l j d ∙ ap (λ n. get_or l n d) (sym e)

  -- over the beginning of the first of two lists, and behind it
  pub front_first : (b x y : List A) → length b ≤ length x → front b (x ++ y) ≡ front b x ++ y
  unfolding front
  front_first b x y h = ap (λ r. b ++ r) (drop-append-le (length b) x y h) ∙ sym (append_assoc b (drop (length b) x) y)

  pub splice_seam : (p : ℕ) (b a r : List A) → length a ≡ p → splice p b (a ++ r) ≡ a ++ front b r
  unfolding splice
  splice_seam p b a r h = ap₂ (λ x y. x ++ front b y) (take_at a r p h) (drop_at a r p h)

  -- stores from the first element on
  pub sets_front : (b l : List A) → length b ≤ length l → sets l 0 b ≡ front b l
  unfolding front
  sets_front b l h = sets-eq b l 0 (omega arith) ∙ ap (λ n. b ++ drop n l) (zero-add (length b))

  -- the part from p on, lent to be read
  pub lent_rest : (p : ℕ) (l : List A) → take (length l - p) (drop p l) ≡ drop p l
  lent_rest p l = take_all (length l - p) (drop p l) (omega (arith, length-drop p l))

  -- a part right behind another
  pub front_append : (a b l : List A) (n : ℕ) → length a ≡ n → n + length b ≤ length l → splice n b (front a l) ≡ front (a ++ b) l
  unfolding splice
  front_append a b l n e h = rw (← e) (simp zero-add at (splice_append 0 a b l (omega arith)))

  -- the part from p on, lent and back with b over its front
  pub lent_front : (p : ℕ) (b l : List A) {m : List A} → p ≤ length l → m ≡ front b (mid_of p (length l - p) l) → put_mid p (length l - p) l m ≡ splice p b l
  unfolding splice
  lent_front p b l h e =
      let n = length l - p in
      let size : length (drop p l) ≡ n = length-drop p l in
      ap (put_mid p n l) e ∙ rw (take_all n (drop p l) (omega arith), ← size, drop-length, append-nil)

module _ {A B : Type 0} (g : A → List B) where
  -- lists of n elements each, one after the other
  pub gather_length : (n : ℕ) (l : List A) → ((x : A) → Memᴰ x l → length (g x) ≡ n) → length (gather g l) ≡ length l * n
  gather_length n [] h = omega arith
  gather_length n (x ∷ l) h =
      omega (arith, length-append (g x) (gather g l), h x (Memᴰ.head refl), gather_length n l (λ y m. h y (Memᴰ.tail m)))

  pub gather_append : (l m : List A) → gather g (l ++ m) ≡ gather g l ++ gather g m
  gather_append [] m = refl
  gather_append (x ∷ l) m = ap (λ r. g x ++ r) (gather_append l m) ∙ sym (append_assoc (g x) (gather g l) (gather g m))

  -- what one element more adds
  pub gather_next : (l : List A) (i : ℕ) (d : A) → i < length l → gather g (take (i + 1) l) ≡ gather g (take i l) ++ g (get_or l i d)
  gather_next l i d h =
      ap (gather g) (ap (λ k. take k l) (add-one i) ∙ take-suc l i d h) ∙ gather_append (take i l) (get_or l i d ∷ [])
      ∙ ap (λ r. gather g (take i l) ++ r) (append-nil (g (get_or l i d)))

  -- a turn of a loop that writes them, n elements to each, over the front of a list
  pub front_more : (n : ℕ) (v : List A) → ((x : A) → Memᴰ x v → length (g x) ≡ n) → (i : ℕ) (d : A) (l : List B) {piece out : List B}
      → i < length v → n * i + n ≤ length l → piece ≡ g (get_or v i d) → out ≡ front (gather g (take i v)) l
      → splice (n * i) piece out ≡ front (gather g (take (i + 1) v)) l
  front_more n v size i d l h k made before =
      let first : length (gather g (take i v)) ≡ n * i =
      gather_length n (take i v) (λ x m. size x (mem_take i m)) ∙ ap (λ k. k * n) (length-take-le i v (omega arith)) ∙ mul_comm i n in
      let next : length (g (get_or v i d)) ≡ n = size (get_or v i d) (mem_get_or v i d h) in
      ap₂ (splice (n * i)) made before
      ∙ front_append (gather g (take i v)) (g (get_or v i d)) l (n * i) first (omega arith)
      ∙ ap (λ r. front r l) (sym (gather_next v i d h))
