-- The definitions of soundness by the parts that the code tests one by one. For `sound_slot`, `sound_symbol`, `sound_pattern`,
-- `sound_book` and `sound_state`.
use mathlib.Core.Path.{◌≡◌, refl, sym, ap, ap₂, ◌∙◌}
use mathlib.Core.Bool.{Bool, true, false, not, ◌&&◌, and-true, and-false, and-eq-true_iff, true≢false}
use mathlib.Core.List.{List, [], ◌∷◌, map}
use Prim.Native.Nat.{ℕ, zero, suc, compare, ◌+◌, ◌*◌, ◌%◌, ◌^◌, ◌≤◌, ◌<◌}
use native.Mathlib.Nat.{one-mul, mod-lt}
use native.Mathlib.Numerals.{add-one}
use native.Mathlib.Omega.{arith}
use borrow.Author.Tests.{lt-ltb, le-ltb, le-leb, lt-leb, leb-true, leb-false, eq-eqb, ne_eqb}
use lib.Dec.{eqb, leb, ltb}
use lib.ListN.{length, take, length-map, length-take}
use lib.Pow.{shl_exact}
use lib.Seq.{length-take-le}
use Rattle.laws.specs.Bits.{bit}
use Rattle.laws.specs.Lists.{all}
use Rattle.laws.specs.Order.{ascending}
use Rattle.laws.proofs.Lists.{and_swap, and_true_split, and_front, all_map, all_take, all_agree, mem_take}
use Rattle.laws.proofs.Maps.{take_map}
use Rattle.meaning.specs.Events.{word32}
use Rattle.meaning.specs.Book.{sound_parameter, sound_symbol, sound_mask, sound_book}
use Rattle.meaning.specs.Labels.{compare_held, held_of}
use Rattle.meaning.specs.Labels as Labels
use Rattle.meaning.specs.Sound.{sound_entry, sound_disjunct, sound_piece, sound_held, sound_state}
use Rattle.table.specs.declared.Parameter.{Parameter}
use Rattle.table.specs.declared.Symbol.{Symbol}
use Rattle.table.specs.Tables.{view_parameter, view_symbol}
use Rattle.table.proofs.Codes.{view_either}
use Rattle.slot.specs.declared.Slot.{Slot}
use Rattle.slot.specs.Slots.{view_slot}
use Rattle.disjunct.specs.declared.Disjunct.{Disjunct}
use Rattle.disjunct.specs.Disjuncts.{view_disjunct}
use Rattle.book.specs.declared.Book.{Book}
use Rattle.book.specs.Books.{view_book}
use Rattle.state.specs.declared.State.{State}
use Rattle.state.specs.States.{held_first, view_state}
use Rattle.sound.specs.Soundness.{slot_counts, symbol_counts, name_placed, book_counts, book_sound, state_counts, state_sound}
use Rattle.sound.specs.Tests.{slot_sound, symbol_sound, declared_sound, pattern_sound, disjunct_sound, pool_sound}
use Rattle.sound.proofs.Sizes.{Words, StateSized, BookSized}
use Rattle.sound.proofs.Held.{held_length}

all_and : {A : Type 0} (f g : A → Bool) (l : List A) → all (λ x. f x && g x) l ≡ (all f l && all g l)
all_and f g [] = refl
all_and f g (x ∷ l) = ap (λ b. f x && g x && b) (all_and f g l) ∙ and_swap (f x) (g x) (all f l) (all g l)

-- a slot: "no exclusions at a bound variable", or at most six of them, ascending
leb_zero : (n : ℕ) → leb n 0 ≡ eqb n 0
leb_zero zero = refl
leb_zero (suc n) = lt-leb (suc n) 0 (omega arith) ∙ sym (ne_eqb (suc n) 0 (λ e. omega arith))

pub slot_bound : (s : Slot) → Words s → s.bound ≡ true → slot_sound s ≡ eqb s.count 0
unfolding slot_sound slot_counts view_slot
slot_bound s w h = rw (h, w.value) (and-true (leb s.count 0) ∙ leb_zero s.count)

slot_many : (s : Slot) → s.bound ≡ false → 6 < s.count → slot_sound s ≡ false
unfolding slot_sound slot_counts
slot_many s h k = rw (h, lt-leb s.count 6 k)

slot_free : (s : Slot) → Words s → s.bound ≡ false → s.count ≤ 6 → slot_sound s ≡ ascending compare (take s.count s.excluded)
unfolding slot_sound slot_counts view_slot
slot_free s w h k =
    let n = length-take s.count s.excluded in
    let few : length (take s.count s.excluded) ≤ 6 = omega arith in
    rw (h, le-leb s.count 6 k, le-leb (length (take s.count s.excluded)) 6 few, all_take word32 s.count s.excluded w.excluded)

-- an argument place: a variable (1), or ignored (0) or a fixed number (2), which is any word
pub parameter_named : (v : ℕ) (p : Parameter) → p.tag ≡ 1 → (leb p.tag 2 && sound_parameter v (view_parameter p)) ≡ ltb p.number v
parameter_named v p h = rw h

pub parameter_other : (v : ℕ) (p : Parameter) → p.number < 2 ^ 32 → (p.tag ≡ 1 → ⊥) → (leb p.tag 2 && sound_parameter v (view_parameter p)) ≡ leb p.tag 2
parameter_other v p w h =
    let sound : sound_parameter v (view_parameter p) ≡ true =
    view_either (λ x. sound_parameter v x ≡ true) p (λ k. absurd (h k)) (λ _. le-leb p.number 4294967295 (omega (arith, w))) (λ _ _. refl) in
    ap (leb p.tag 2 &&◌) sound ∙ and-true (leb p.tag 2)

-- a symbol: its kind, and its places one by one
pub symbol_many : (v : ℕ) (y : Symbol) → 4 < y.count → symbol_sound v y ≡ false
unfolding symbol_sound symbol_counts
symbol_many v y h = rw (lt-leb y.count 4 h)

abbrev pub one_parameter : ℕ → Parameter → Bool
one_parameter v p = leb p.tag 2 && sound_parameter v (view_parameter p)

pub symbol_parts : (v : ℕ) (y : Symbol) → y.count ≤ 4
    → symbol_sound v y
    ≡ (leb 1 y.kind && leb y.kind 255 && all (λ p. leb p.tag 2 && sound_parameter v (view_parameter p)) (take y.count y.parameters))
unfolding symbol_sound symbol_counts sound_symbol view_symbol
symbol_parts v y h =
    let ps = take y.count y.parameters in
    let k = leb 1 y.kind && leb y.kind 255 in
    let n = length-map ps view_parameter in
    let m = length-take y.count y.parameters in
    let few : length (map view_parameter ps) ≤ 4 = omega arith in
    let tag : Parameter → Bool = λ p. leb p.tag 2 in
    let named : Parameter → Bool = λ p. sound_parameter v (view_parameter p) in
    rw (le-leb y.count 4 h, le-leb (length (map view_parameter ps)) 4 few, and-true k, all_map (sound_parameter v) view_parameter ps, all_and tag named ps)
    (and_front (all tag ps) k (all named ps))

pub symbol_told : (v : ℕ) (y : Symbol)
    → symbol_sound v y ≡ (leb y.count 4 && (leb 1 y.kind && leb y.kind 255) && all (one_parameter v) (take y.count y.parameters))
symbol_told v y = go (leb y.count 4) refl
  where
    go : (t : Bool) → leb y.count 4 ≡ t
        → symbol_sound v y ≡ (t && (leb 1 y.kind && leb y.kind 255) && all (one_parameter v) (take y.count y.parameters))
    go true e = symbol_parts v y (leb-true y.count 4 e)
    go false e = symbol_many v y (leb-false y.count 4 e)

-- a mask of positions: below 2 ^ (n + 1), as a shifted one says, and even
shifted : (n : ℕ) → n ≤ 31 → 1 * 2 ^ (n + 1) % 2 ^ 64 ≡ 2 ^ suc n
shifted n h = shl_exact {a = 1} 1 (n + 1) 64 (omega arith) (omega arith) ∙ one-mul (2 ^ (n + 1)) ∙ ap (λ k. 2 ^ k) (add-one n)

even : (k : ℕ) → k < 2 → eqb k 0 ≡ not (eqb k 1)
even zero h = refl
even (suc zero) h = refl
even (suc (suc k)) h = absurd (omega arith)

pub mask_below : (n m : ℕ) → n ≤ 31 → m < 1 * 2 ^ (n + 1) % 2 ^ 64 → eqb (m % 2) 0 ≡ sound_mask n m
unfolding bit
mask_below n m h k = rw (lt-ltb m (2 ^ suc n) (rw (shifted n h) at k)) (even (m % 2) (mod-lt m (omega arith)))

pub mask_above : (n m : ℕ) → n ≤ 31 → 1 * 2 ^ (n + 1) % 2 ^ 64 ≤ m → ltb m (1 * 2 ^ (n + 1) % 2 ^ 64) ≡ sound_mask n m
mask_above n m h k = le-ltb m (1 * 2 ^ (n + 1) % 2 ^ 64) k ∙ sym (ap (λ t. t && not (bit 0 m)) (le-ltb m (2 ^ suc n) (rw (shifted n h) at k)))

-- the pattern's share of a book: its positions, then masks and occurrences
pattern_and : (t p q o b e f : Bool) → (p && q && o && b && e && f && t) ≡ (t && (p && q) && b && e && o && f)
pattern_and true true true true b e f = and-true (b && e && f) ∙ sym (ap (◌&& f) (and-true (b && e)))
pattern_and true true true false b e f = sym (ap (◌&& f) (and-false (b && e)))
pattern_and true true false o b e f = refl
pattern_and true false q o b e f = refl
pattern_and false p q o b e f = and-false (p && q && o && b && e && f)

pub pattern_told : (b : Book) → let n = b.positions in
    pattern_sound b
    ≡ (not b.empty && (leb 1 n && leb n 31) && sound_mask n b.begins && sound_mask n b.ends && all (λ a. ltb a b.symbols) (take n b.occurrences)
    && all (sound_mask n) (take n b.follows))
unfolding pattern_sound
pattern_told b =
    let n = b.positions in
    pattern_and (not b.empty) (leb 1 n) (leb n 31) (all (λ a. ltb a b.symbols) (take n b.occurrences)) (sound_mask n b.begins) (sound_mask n b.ends)
    (all (sound_mask n) (take n b.follows))

pub pattern_empty : (b : Book) → b.empty ≡ true → pattern_sound b ≡ false
pattern_empty b h = pattern_told b ∙ rw h

pub pattern_none : (b : Book) → (leb 1 b.positions && leb b.positions 31) ≡ false → pattern_sound b ≡ false
unfolding pattern_sound
pattern_none b h = rw h

pub pattern_parts : (b : Book) → b.empty ≡ false → (leb 1 b.positions && leb b.positions 31) ≡ true → let n = b.positions in
    pattern_sound b
    ≡ (sound_mask n b.begins && sound_mask n b.ends
    && (all (λ a. ltb a b.symbols) (take n b.occurrences) && all (sound_mask n) (take n b.follows)))
pattern_parts b h k =
    let n = b.positions in
    let o = all (λ a. ltb a b.symbols) (take n b.occurrences) in
    pattern_told b ∙ rw (h, k) (and_assoc (sound_mask n b.begins && sound_mask n b.ends) o (all (sound_mask n) (take n b.follows)))
  where
    and_assoc : (x y z : Bool) → (x && y && z) ≡ (x && (y && z))
    and_assoc true y z = refl
    and_assoc false y z = refl

-- a book: the number of variables and symbols, then the symbols, then the names, then the pattern
pub book_variables : (b : Book) → 4 < b.variables → book_sound b ≡ false
unfolding book_sound sound_book view_book
book_variables b h = rw (lt-leb b.variables 4 h) (and-false (book_counts b))

pub book_none : (b : Book) → (leb 1 b.symbols && leb b.symbols 16) ≡ false → book_sound b ≡ false
unfolding book_sound book_counts sound_book view_book
book_none b h = go (book_sound b) refl
  where
    go : (t : Bool) → book_sound b ≡ t → book_sound b ≡ false
    go true e =
        let p = simp and-eq-true_iff at e in
        let l = length-map (take b.symbols b.table) view_symbol in
        let m = length-take b.symbols b.table in
        let few : b.symbols ≤ 16 = omega (arith, leb-true) in
        let some : 1 ≤ b.symbols = omega (arith, leb-true) in
        absurd (true≢false (sym (ap₂ ◌&&◌ (le-leb 1 b.symbols some) (le-leb b.symbols 16 few)) ∙ h))
    go false e = e

-- symbols that are sound, as the struct's counts and as the view tell
symbols_parts : (v : ℕ) (l : List Symbol) → all (symbol_sound v) l ≡ (all symbol_counts l && all (sound_symbol v) (map view_symbol l))
unfolding symbol_sound
symbols_parts v l =
    all_and symbol_counts (λ y. sound_symbol v (view_symbol y)) l
    ∙ ap (all symbol_counts l &&◌) (sym (all_map (sound_symbol v) view_symbol l))

book_and : (c a s l o b e f n : Bool)
    → (c && a && (s && l && true && o && b && e && true && f && n)) ≡ (c && s && a && (l && true && o && b && e && f && n))
book_and true true true l o b e f n = ap (λ t. t && f && n) (and-true (l && true && o && b && e))
book_and true true false l o b e f n = refl
book_and true false s l o b e f n = sym (ap (◌&& (l && true && o && b && e && f && n)) (and-false s))
book_and false a s l o b e f n = refl

module _ (b : Book) (z : BookSized b) (few : b.variables ≤ 4) (some : 1 ≤ b.symbols) (most : b.symbols ≤ 16) where
  book_fits_law : b.positions ≤ 31 → book_sound b ≡ (declared_sound b && pattern_sound b)
  unfolding book_sound book_counts sound_book view_book declared_sound pattern_sound
  book_fits_law h =
      let n = b.positions in
      let t = take b.symbols b.table in
      let m : b.symbols ≤ length b.table = omega (arith, z.table) in
      let o : n ≤ length b.occurrences = omega (arith, z.occurrences) in
      let f : n ≤ length b.follows = omega (arith, z.follows) in
      rw (
        symbols_parts b.variables t,
        length-map t view_symbol,
        length-take-le b.symbols b.table m,
        length-take-le n b.occurrences o,
        length-take-le n b.follows f,
        le-leb b.variables 4 few,
        le-leb 1 b.symbols some,
        le-leb b.symbols 16 most,
        le-leb n 31 h,
        eq-eqb n n refl,
      )
      (book_and (all symbol_counts t) (all name_placed (take (b.variables + b.symbols) b.names))
      (all (sound_symbol b.variables) (map view_symbol t)) (leb 1 n)
      (all (λ a. ltb a b.symbols) (take n b.occurrences)) (sound_mask n b.begins) (sound_mask n b.ends)
      (all (sound_mask n) (take n b.follows)) (not b.empty))

  pub book_parts : book_sound b ≡ (declared_sound b && pattern_sound b)
  unfolding book_sound book_counts
  book_parts = go (leb b.positions 31) refl
    where
      go : (t : Bool) → leb b.positions 31 ≡ t → book_sound b ≡ (declared_sound b && pattern_sound b)
      go true e = book_fits_law (leb-true b.positions 31 e)
      go false e =
          let s = declared_sound b in
          rw (e, and-false (leb b.symbols 16))
          (sym (ap (s &&◌) (pattern_none b (ap (leb 1 b.positions &&◌) e ∙ and-false (leb 1 b.positions))) ∙ and-false s))

pub book_told : (b : Book) → BookSized b
    → book_sound b
    ≡ (leb b.variables 4 && (leb 1 b.symbols && leb b.symbols 16) && all (symbol_sound b.variables) (take b.symbols b.table)
    && all name_placed (take (b.variables + b.symbols) b.names) && pattern_sound b)
unfolding declared_sound
book_told b z = go (leb b.variables 4) (leb 1 b.symbols && leb b.symbols 16) refl refl
  where
    go : (t u : Bool) → leb b.variables 4 ≡ t → (leb 1 b.symbols && leb b.symbols 16) ≡ u
        → book_sound b
        ≡ (t && u && all (symbol_sound b.variables) (take b.symbols b.table) && all name_placed (take (b.variables + b.symbols) b.names)
        && pattern_sound b)
    go false u e f = book_variables b (leb-false b.variables 4 e)
    go true false e f = book_none b f
    go true true e f =
        let (low, high) = and_true_split (leb 1 b.symbols) (leb b.symbols 16) f in
        book_parts b z (leb-true b.variables 4 e) (leb-true 1 b.symbols low) (leb-true b.symbols 16 high)

-- a disjunct: the counts of its slots, and what the view tells
disjunct_parts : (n : ℕ) (d : Disjunct) → n ≤ length d.vars
    → disjunct_sound n d ≡ (all slot_counts (take n d.vars) && sound_disjunct n (take n (view_disjunct d)))
unfolding disjunct_sound slot_sound view_disjunct
disjunct_parts n d h =
    let l = take n d.vars in
    let e = length-map l view_slot ∙ length-take-le n d.vars h in
    all_and slot_counts (λ x. sound_entry (view_slot x)) l
    ∙ ap (all slot_counts l &&◌) (sym (all_map sound_entry view_slot l))
    ∙ sym (rw (take_map view_slot n d.vars, eq-eqb (length (map view_slot l)) n e))

-- what is held, by its positions and by its disjuncts
held_all : (f : ℕ → Bool) (g : Labels.Disjunct → Bool) (ps : List ℕ) (l : List Labels.Disjunct) → length ps ≡ length l
    → all (λ (h : Labels.Held). f h.position && g h.disjunct) (held_of ps l) ≡ (all f ps && all g l)
held_all f g [] [] h = refl
held_all f g [] (D ∷ l) h = absurd (omega arith)
held_all f g (p ∷ ps) [] h = absurd (omega arith)
held_all f g (p ∷ ps) (D ∷ l) h = ap (λ b. f p && g D && b) (held_all f g ps l (omega arith)) ∙ and_swap (f p) (g D) (all f ps) (all g l)

state_and : (c f g a : Bool) → (c && (f && g && a)) ≡ (f && (c && g) && a)
state_and true f g a = refl
state_and false f g a = sym (ap (◌&& a) (and-false f))

pub state_late : (b : Book) (s : State) → 1000000 < s.number → state_sound b s ≡ false
unfolding state_sound sound_state view_state
state_late b s h = rw (lt-leb s.number 1000000 h) (and-false (state_counts b.variables s))

pub state_many : (b : Book) (s : State) → 128 < s.count → state_sound b s ≡ false
unfolding state_sound state_counts
state_many b s h = rw (lt-leb s.count 128 h)

-- what a state holds, by its positions and by its disjuncts
pub pieces_parts : (b : Book) (s : State) → s.count ≤ length s.positions → s.count ≤ length s.pool → let n = b.variables in
    all (sound_piece (view_book b)) (held_first n s)
    ≡ (all (λ p. leb 1 p && leb p (length (take b.positions b.occurrences))) (take s.count s.positions)
    && all (λ d. sound_disjunct n (take n (view_disjunct d))) (take s.count s.pool))
unfolding sound_piece view_book held_first
pieces_parts b s g k =
    let n = b.variables in
    let f : Disjunct → Labels.Disjunct = λ d. take n (view_disjunct d) in
    let ps = take s.count s.positions in
    let l = take s.count s.pool in
    let e = length-take-le s.count s.positions g in
    let d = length-map l f ∙ length-take-le s.count s.pool k in
    let range : ℕ → Bool = λ p. leb 1 p && leb p (length (take b.positions b.occurrences)) in
    held_all range (sound_disjunct n) ps (map f l) (e ∙ sym d) ∙ ap (all range ps &&◌) (all_map (sound_disjunct n) f l)

-- the disjuncts of a state
pool_parts : (n : ℕ) (s : State) → StateSized s → n ≤ 4 → let l = take s.count s.pool in
    all (disjunct_sound n) l ≡ (all (λ d. all slot_counts (take n d.vars)) l && all (λ d. sound_disjunct n (take n (view_disjunct d))) l)
pool_parts n s z few =
    let l = take s.count s.pool in
    all_agree (disjunct_sound n) (λ d. all slot_counts (take n d.vars) && sound_disjunct n (take n (view_disjunct d))) l
    (λ d m. disjunct_parts n d (omega (arith, z.vars d (mem_take s.count m))))
    ∙ all_and (λ d. all slot_counts (take n d.vars)) (λ d. sound_disjunct n (take n (view_disjunct d))) l

-- a state: its pool, and the order in it
pub state_parts : (b : Book) (s : State) → StateSized s → b.variables ≤ 4 → s.count ≤ 128 → s.number ≤ 1000000 → (m : ℕ)
    → m ≡ length (take b.positions b.occurrences)
    → state_sound b s ≡ (pool_sound b.variables m s && ascending compare_held (held_first b.variables s))
unfolding state_sound state_counts sound_state sound_held view_state pool_sound
state_parts b s z few count h m e =
    let n = b.variables in
    let g : s.count ≤ length s.positions = omega (arith, z.positions) in
    let k : s.count ≤ length s.pool = omega (arith, z.pool) in
    let l = take s.count s.pool in
    rw (e, pool_parts n s z few, held_length n s g k, pieces_parts b s g k, le-leb s.count 128 count, le-leb s.number 1000000 h)
    (state_and (all (λ d. all slot_counts (take n d.vars)) l)
    (all (λ p. leb 1 p && leb p (length (take b.positions b.occurrences))) (take s.count s.positions))
    (all (λ d. sound_disjunct n (take n (view_disjunct d))) l)
    (ascending compare_held (held_first n s)))

-- a slot, by whether it is bound; a free one by its count and its exclusions
pub slot_told : (s : Slot) → Words s → s.bound ≡ false → slot_sound s ≡ (leb s.count 6 && ascending compare (take s.count s.excluded))
slot_told s w h = go (leb s.count 6) refl
  where
    go : (t : Bool) → leb s.count 6 ≡ t → slot_sound s ≡ (t && ascending compare (take s.count s.excluded))
    go true e = slot_free s w h (leb-true s.count 6 e)
    go false e = slot_many s h (leb-false s.count 6 e)
