-- "Sound means: …" in words, clause by clause over the numbers of the structs, for any book and any state whose arrays are as long as their types
-- say; and the order in which a state holds its disjuncts. For `nine_rules`, which speaks by `book_sound` and `state_sound`.
use mathlib.Core.Path.{◌≡◌, refl, sym, ap, ap₂, ◌∙◌}
use mathlib.Core.Bool.{Bool, true, false, cond, not, ◌&&◌, false≢true}
use mathlib.Core.List.{List, [], ◌∷◌, Memᴰ}
use mathlib.Core.Logic.{◌↔◌, ◌⊎◌, inl, inr}
use Prim.Native.Nat.{ℕ, zero, suc, ◌+◌, ◌^◌, ◌≤◌, ◌<◌, compare, Ordering}
use native.Mathlib.Omega.{arith}
use borrow.Author.Tests.{leb-true, leb-false, le-leb, ltb-true, lt-ltb, not-true}
use lib.Dec.{leb, ltb}
use lib.ListN.{length, take, get_or, length-take}
use lib.Seq.{length-take-le}
use Rattle.laws.specs.Bits.{bit}
use Rattle.laws.specs.Lists.{all}
use Rattle.laws.specs.Order.{is_less, rising, ascending}
use Rattle.laws.proofs.Lists.{and_true_split, all_at, all_of}
use Rattle.laws.proofs.Order.{compare_lt, lt_compare, compare_order}
use Rattle.meaning.specs.Events.{word32, Event}
use Rattle.meaning.specs.Book as Plain
use Rattle.meaning.specs.Rows.{rows, compare_valuations}
use Rattle.automaton.proofs.Members.{rows_ascending}
use Rattle.meaning.specs.Book.{sound_parameter, sound_mask}
use Rattle.meaning.specs.Labels.{bound, free, held_at, compare_held, compare_disjuncts}
use Rattle.meaning.specs.Labels as Labels
use Rattle.meaning.specs.Sound.{sound_entry}
use Rattle.table.specs.declared.Parameter.{Parameter}
use Rattle.table.specs.declared.Symbol.{Symbol}
use Rattle.table.specs.declared.Name.{Name}
use Rattle.table.specs.Tables.{view_parameter}
use Rattle.table.proofs.Codes.{view_either}
use Rattle.slot.specs.declared.Slot.{Slot}
use Rattle.slot.specs.Slots.{view_slot}
use Rattle.disjunct.specs.declared.Disjunct.{Disjunct}
use Rattle.book.specs.declared.Book.{Book}
use Rattle.state.specs.declared.State.{State}
use Rattle.state.specs.States.{held_first}
use Rattle.sound.specs.Soundness.{slot_counts, name_placed, book_sound, state_sound}
use Rattle.sound.specs.Tests.{slot_sound, symbol_sound, declared_sound, pattern_sound, disjunct_sound, pool_sound}
use Rattle.sound.proofs.Sizes.{StateSized, BookSized}
use Rattle.sound.proofs.Soundness.{book_counts_law}
use Rattle.sound.proofs.Parts as Parts

-- every element passes, in words
every : {A : Type 0} (f : A → Bool) (P : A → Type 0) → ((x : A) → (f x ≡ true) ↔ P x) → (l : List A)
    → (all f l ≡ true) ↔ ((x : A) → Memᴰ x l → P x)
every f P e l = (λ h x m. (e x).0 (all_at f h m), λ g. all_of f l (λ x m. (e x).1 (g x m)))

-- "KIND is 1 to 255 … ARGS are 0 to 4 words, each a declared variable or `_`", or "`=` and a number 0 to 4294967295"
abbrev SoundPlace : ℕ → Parameter → Type 0
SoundPlace v p = (p.tag ≡ 0) ⊎ (((p.tag ≡ 1) × (p.number < v)) ⊎ ((p.tag ≡ 2) × (p.number ≤ 4294967295)))

tag_zero : (n : ℕ) → n ≤ 2 → (n ≡ 1 → ⊥) → (n ≡ 2 → ⊥) → n ≡ 0
tag_zero zero h a b = refl
tag_zero (suc zero) h a b = absurd (a refl)
tag_zero (suc (suc zero)) h a b = absurd (b refl)
tag_zero (suc (suc (suc n))) h a b = absurd (omega (arith, h))

parameter_words_law : (v : ℕ) (p : Parameter) → ((leb p.tag 2 && sound_parameter v (view_parameter p)) ≡ true) ↔ SoundPlace v p
parameter_words_law v p = (forth, back)
  where
    forth : (leb p.tag 2 && sound_parameter v (view_parameter p)) ≡ true → SoundPlace v p
    forth h =
        let (a, s) = and_true_split (leb p.tag 2) (sound_parameter v (view_parameter p)) h in
        view_either (λ x. sound_parameter v x ≡ true → SoundPlace v p) p (λ o q. inr (inl (o, ltb-true p.number v q)))
        (λ o q. inr (inr (o, leb-true p.number 4294967295 q))) (λ m n _. inl (tag_zero p.tag (leb-true p.tag 2 a) m n)) s

    back : SoundPlace v p → (leb p.tag 2 && sound_parameter v (view_parameter p)) ≡ true
    back (inl z) = rw z
    back (inr (inl (o, l))) = rw (o, lt-ltb p.number v l)
    back (inr (inr (o, l))) = rw (o, le-leb p.number 4294967295 l)

-- a number that is over its limit makes the test false
within : (n k : ℕ) {z : Bool} → (k < n → z ≡ false) → z ≡ true → n ≤ k
within n k f h = go (leb n k) refl
  where
    go : (t : Bool) → leb n k ≡ t → n ≤ k
    go true e = leb-true n k e
    go false e = absurd (false≢true (sym (f (leb-false n k e)) ∙ h))

-- a test that would otherwise be false holds
needed : (a : Bool) {z : Bool} → (a ≡ false → z ≡ false) → z ≡ true → a ≡ true
needed true f h = refl
needed false f h = absurd (false≢true (sym (f refl) ∙ h))

symbol_words_law : (v : ℕ) (y : Symbol) → (symbol_sound v y ≡ true)
    ↔ ((1 ≤ y.kind) × (y.kind ≤ 255) × (y.count ≤ 4)
    × ((p : Parameter) → Memᴰ p (take y.count y.parameters) → SoundPlace v p))
symbol_words_law v y =
    let test : Parameter → Bool = λ p. leb p.tag 2 && sound_parameter v (view_parameter p) in
    let ps = every test (SoundPlace v) (parameter_words_law v) (take y.count y.parameters) in (
      λ h. let few = within y.count 4 (Parts.symbol_many v y) h in
          let (k, a) = and_true_split (leb 1 y.kind && leb y.kind 255) _ (sym (Parts.symbol_parts v y few) ∙ h) in
          let (i, j) = and_true_split (leb 1 y.kind) (leb y.kind 255) k in
          (leb-true 1 y.kind i, leb-true y.kind 255 j, few, ps.0 a),
      λ (i, j, few, a). Parts.symbol_parts v y few ∙ ap₂ ◌&&◌ (ap₂ ◌&&◌ (le-leb 1 y.kind i) (le-leb y.kind 255 j)) (ps.1 a),
    )

mask_words : (n m : ℕ) → (sound_mask n m ≡ true) ↔ ((m < 2 ^ suc n) × (bit 0 m ≡ false))
mask_words n m = (
  λ h. let (a, b) = and_true_split (ltb m (2 ^ suc n)) (not (bit 0 m)) h in (ltb-true m (2 ^ suc n) a, not-true (bit 0 m) b),
  λ (a, b). ap₂ ◌&&◌ (lt-ltb m (2 ^ suc n) a) (ap not b),
)

-- "Sound means: at least one position, every number in its declared range, no empty word", of a book
pub sound_book_rules : (b : Book) → BookSized b
    → let v = b.variables in
    let n = b.positions in
    (book_sound b ≡ true)
    ↔ ((v ≤ 4) × (1 ≤ b.symbols) × (b.symbols ≤ 16)
    × ((y : Symbol) → Memᴰ y (take b.symbols b.table) → (1 ≤ y.kind) × (y.kind ≤ 255) × (y.count ≤ 4)
    × ((p : Parameter) → Memᴰ p (take y.count y.parameters)
    → (p.tag ≡ 0) ⊎ (((p.tag ≡ 1) × (p.number < v)) ⊎ ((p.tag ≡ 2) × (p.number ≤ 4294967295)))))
    × ((x : Name) → Memᴰ x (take (v + b.symbols) b.names) → x.start + x.size ≤ 4096)
    × (1 ≤ n) × (n ≤ 31) × ((a : ℕ) → Memᴰ a (take n b.occurrences) → a < b.symbols)
    × ((b.begins < 2 ^ suc n) × (bit 0 b.begins ≡ false)) × ((b.ends < 2 ^ suc n) × (bit 0 b.ends ≡ false))
    × ((m : ℕ) → Memᴰ m (take n b.follows) → (m < 2 ^ suc n) × (bit 0 m ≡ false)) × (b.empty ≡ false))
unfolding declared_sound
sound_book_rules b z =
    let v = b.variables in
    let n = b.positions in
    let declared = every (symbol_sound v) _ (symbol_words_law v) (take b.symbols b.table) in
    let named = every name_placed (λ x. x.start + x.size ≤ 4096) (λ x. (leb-true _ 4096, le-leb _ 4096)) (take (v + b.symbols) b.names) in
    let occurring = every (λ a. ltb a b.symbols) (λ a. a < b.symbols) (λ a. (ltb-true a _, lt-ltb a _)) (take n b.occurrences) in
    let following = every (sound_mask n) _ (mask_words n) (take n b.follows) in (
      λ h. let few = within v 4 (Parts.book_variables b) h in
          let (some, most) = and_true_split (leb 1 b.symbols) _ (needed (leb 1 b.symbols && leb b.symbols 16) (Parts.book_none b) h) in
          let e = sym (Parts.book_parts b z few (leb-true 1 b.symbols some) (leb-true b.symbols 16 most)) ∙ h in
          let (d, p) = and_true_split (declared_sound b) (pattern_sound b) e in
          let (y, x) = and_true_split (all (symbol_sound v) (take b.symbols b.table)) _ d in
          let full = nonempty b p in
          let k = needed (leb 1 n && leb n 31) (Parts.pattern_none b) p in
          let (i, j) = and_true_split (leb 1 n) (leb n 31) k in
          let (m, o) = and_true_split (sound_mask n b.begins && sound_mask n b.ends) _ (sym (Parts.pattern_parts b full k) ∙ p) in
          let (f, l) = and_true_split (sound_mask n b.begins) (sound_mask n b.ends) m in
          let (a, g) = and_true_split (all (λ a. ltb a b.symbols) (take n b.occurrences)) _ o in (
            few,
            leb-true 1 b.symbols some,
            leb-true b.symbols 16 most,
            declared.0 y,
            named.0 x,
            leb-true 1 n i,
            leb-true n 31 j,
            occurring.0 a,
            (mask_words n b.begins).0 f,
            (mask_words n b.ends).0 l,
            following.0 g,
            full,
          ),
      λ (few, some, most, y, x, i, j, a, f, l, g, full).
          Parts.book_parts b z few some most
          ∙ ap₂ ◌&&◌ (ap₂ ◌&&◌ (declared.1 y) (named.1 x))
          (Parts.pattern_parts b full (ap₂ ◌&&◌ (le-leb 1 n i) (le-leb n 31 j))
          ∙ ap₂ ◌&&◌ (ap₂ ◌&&◌ ((mask_words n b.begins).1 f) ((mask_words n b.ends).1 l)) (ap₂ ◌&&◌ (occurring.1 a) (following.1 g))),
    )
  where
    nonempty : (b : Book) → pattern_sound b ≡ true → b.empty ≡ false
    nonempty b h = go b.empty refl
      where
        go : (t : Bool) → b.empty ≡ t → b.empty ≡ false
        go true e = absurd (false≢true (sym (Parts.pattern_empty b e) ∙ h))
        go false e = e

-- "ascending and distinct", in words: each before the next
less_is : (o : Ordering) → (is_less o ≡ true) ↔ (o ≡ Ordering.lt)
less_is Ordering.lt = (λ _. refl, λ _. refl)
less_is Ordering.eq = (λ h. absurd (false≢true h), λ h. ap is_less h)
less_is Ordering.gt = (λ h. absurd (false≢true h), λ h. ap is_less h)

pub ascending_words : {A : Type 0} (cmp : A → A → Ordering) (d : A) (l : List A)
    → (ascending cmp l ≡ true) ↔ ((i : ℕ) → suc i < length l → cmp (get_or l i d) (get_or l (suc i) d) ≡ Ordering.lt)
ascending_words cmp d [] = (λ _ i h. absurd (omega (arith, h)), λ _. refl)
ascending_words cmp d (x ∷ []) = (λ _ i h. absurd (omega (arith, h)), λ _. refl)
ascending_words cmp d (x ∷ y ∷ l) =
    let ih = ascending_words cmp d (y ∷ l) in (
      λ h. let (a, b) = and_true_split (is_less (cmp x y)) (rising cmp y l) h in at ((less_is (cmp x y)).0 a) (ih.0 b),
      λ g. ap₂ ◌&&◌ ((less_is (cmp x y)).1 (g 0 (omega arith))) (ih.1 (λ i h. g (suc i) (omega (arith, h)))),
    )
  where
    at : cmp x y ≡ Ordering.lt → ((i : ℕ) → suc i < length (y ∷ l) → cmp (get_or (y ∷ l) i d) (get_or (y ∷ l) (suc i) d) ≡ Ordering.lt)
        → (i : ℕ) → suc i < length (x ∷ y ∷ l) → cmp (get_or (x ∷ y ∷ l) i d) (get_or (x ∷ y ∷ l) (suc i) d) ≡ Ordering.lt
    at a b zero h = a
    at a b (suc i) h = b i (omega (arith, h))

-- what is said of one variable: "no exclusions at a bound variable", "at most 6 excluded values", "ascending and distinct"
module _ (x : Slot) where
  abbrev counted : List ℕ
  counted = take x.count x.excluded

  abbrev Bound : Type 0
  Bound = (x.bound ≡ true) × (x.count ≡ 0) × (x.value < 2 ^ 32)

  abbrev Free : Type 0
  Free =
      (x.bound ≡ false) × (x.count ≤ 6) × ((a : ℕ) → Memᴰ a counted → a < 2 ^ 32)
      × ((i : ℕ) → suc i < length counted → get_or counted i 0 < get_or counted (suc i) 0)

  as_bound : x.bound ≡ true → Bound ⊎ Free → (x.count ≡ 0) × (x.value < 2 ^ 32)
  as_bound e (inl (_, a, b)) = (a, b)
  as_bound e (inr r) = absurd (false≢true (sym r.0 ∙ e))

  as_free : x.bound ≡ false → Bound ⊎ Free → Free
  as_free e (inl r) = absurd (false≢true (sym e ∙ r.0))
  as_free e (inr f) = f

  slot_words_law : (slot_sound x ≡ true) ↔ (Bound ⊎ Free)
  unfolding slot_sound slot_counts view_slot
  slot_words_law = go x.bound refl
    where
      small : (all word32 counted ≡ true) ↔ ((a : ℕ) → Memᴰ a counted → a < 2 ^ 32)
      small = every word32 (λ a. a < 2 ^ 32) (λ a. (ltb-true a (2 ^ 32), lt-ltb a (2 ^ 32))) counted

      rises : (ascending compare counted ≡ true) ↔ ((i : ℕ) → suc i < length counted → compare (get_or counted i 0) (get_or counted (suc i) 0) ≡ Ordering.lt)
      rises = ascending_words compare 0 counted

      go : (t : Bool) → x.bound ≡ t → ((leb x.count (cond t 0 6) && sound_entry (cond t (bound x.value) (free counted))) ≡ true) ↔ (Bound ⊎ Free)
      go true e = (
        λ h. let (a, b) = and_true_split (leb x.count 0) (word32 x.value) h in
            let z = leb-true x.count 0 a in inl (e, omega arith, ltb-true x.value (2 ^ 32) b),
        λ r. let (a, b) = as_bound e r in ap₂ ◌&&◌ (le-leb x.count 0 (omega arith)) (lt-ltb x.value (2 ^ 32) b),
      )
      go false e = (
        λ h. let (a, r) = and_true_split (leb x.count 6) _ h in
            let (p, o) = and_true_split (leb (length counted) 6 && all word32 counted) (ascending compare counted) r in
            let (_, w) = and_true_split (leb (length counted) 6) (all word32 counted) p in
            inr (e, leb-true x.count 6 a, small.0 w, λ i k. compare_lt _ _ (rises.0 o i k)),
        λ r. let (_, a, w, o) = as_free e r in
            let n = length-take x.count x.excluded in
            ap₂ ◌&&◌ (le-leb x.count 6 a)
            (ap₂ ◌&&◌ (ap₂ ◌&&◌ (le-leb (length counted) 6 (omega arith)) (small.1 w)) (rises.1 (λ i k. lt_compare _ _ (o i k)))),
      )

-- "every number in its declared range, … exclusions and disjuncts ascending and distinct, no exclusions at a bound variable, at most 128 disjuncts", of
-- a state: what no count reaches is not judged
pub sound_state_rules : (b : Book) (s : State) → BookSized b → StateSized s → book_sound b ≡ true
    → let v = b.variables in
    let held = held_first v s in
    (state_sound b s ≡ true)
    ↔ ((s.number ≤ 1000000) × (s.count ≤ 128)
    × ((p : ℕ) → Memᴰ p (take s.count s.positions) → (1 ≤ p) × (p ≤ b.positions))
    × ((d : Disjunct) → Memᴰ d (take s.count s.pool) → (x : Slot) → Memᴰ x (take v d.vars)
    → let xs = take x.count x.excluded in
    ((x.bound ≡ true) × (x.count ≡ 0) × (x.value < 2 ^ 32))
    ⊎ ((x.bound ≡ false) × (x.count ≤ 6) × ((a : ℕ) → Memᴰ a xs → a < 2 ^ 32)
    × ((i : ℕ) → suc i < length xs → get_or xs i 0 < get_or xs (suc i) 0)))
    × ((i : ℕ) → suc i < length held → compare_held (get_or held i (held_at 0 [])) (get_or held (suc i) (held_at 0 [])) ≡ Ordering.lt))
unfolding pool_sound disjunct_sound
sound_state_rules b s z y h =
    let v = b.variables in
    let (four, _, most) = book_counts_law b h in
    let o = length-take-le b.positions b.occurrences (omega (arith, z.occurrences)) in
    let in_range : ℕ → Bool = λ p. leb 1 p && leb p b.positions in
    let placed = every in_range (λ p. (1 ≤ p) × (p ≤ b.positions)) (range b.positions) (take s.count s.positions) in
    let pooled = every (disjunct_sound v) _ (λ d. every slot_sound _ slot_words_law (take v d.vars)) (take s.count s.pool) in
    let rises = ascending_words compare_held (held_at 0 []) (held_first v s) in (
      λ k. let n = within s.number 1000000 (Parts.state_late b s) k in
          let c = within s.count 128 (Parts.state_many b s) k in
          let (p, a) = and_true_split (pool_sound v b.positions s) _ (sym (Parts.state_parts b s y four c n b.positions (sym o)) ∙ k) in
          let (q, d) = and_true_split (all in_range (take s.count s.positions)) _ p in
          (n, c, placed.0 q, pooled.0 d, rises.0 a),
      λ (n, c, q, d, a). Parts.state_parts b s y four c n b.positions (sym o) ∙ ap₂ ◌&&◌ (ap₂ ◌&&◌ (placed.1 q) (pooled.1 d)) (rises.1 a),
    )
  where
    range : (n p : ℕ) → ((leb 1 p && leb p n) ≡ true) ↔ ((1 ≤ p) × (p ≤ n))
    range n p = (
      λ k. let (a, c) = and_true_split (leb 1 p) (leb p n) k in (leb-true 1 p a, leb-true p n c),
      λ (a, c). ap₂ ◌&&◌ (le-leb 1 p a) (le-leb p n c),
    )

-- "Held disjuncts stand by position, then by …": a smaller position first, and at one position the smaller disjunct (`values_first`, `lists_next`)
pub positions_first : (p q : ℕ) (D E : Labels.Disjunct)
    → (p < q → compare_held (held_at p D) (held_at q E) ≡ Ordering.lt) × (compare_held (held_at p D) (held_at p E) ≡ compare_disjuncts D E)
positions_first p q D E = (λ h. rw (lt_compare p q h), rw (compare_order.self p))

-- "once each and in order": each row before the next
pub rows_apart : (b : Plain.Book) (held : List Labels.Held) (e : Event) (i : ℕ) → let l = rows b held e in
    suc i < length l → compare_valuations (get_or l i []) (get_or l (suc i) []) ≡ Ordering.lt
rows_apart b held e = (ascending_words compare_valuations [] (rows b held e)).0 (rows_ascending b held e)
