-- Words out of range, wherever they stand among those that count: a count of disjuncts over 128, a variable's code above 7 and a parameter's tag above 2 are
-- answer 9, whatever else the blocks hold. For the buyer who lends memory that anything may have been written to.
use mathlib.Core.Path.{◌≡◌, refl, sym, ap, ◌∙◌}
use mathlib.Core.Bool.{Bool, true, false, and-eq-true_iff, false≢true}
use mathlib.Core.List.{List, [], map}
use Prim.Native.Nat.{ℕ, ◌+◌, ◌*◌, ◌≤◌, ◌<◌}
use native.Mathlib.Omega.{arith}
use borrow.Author.Tests.{leb-true, ne_eqb, lt-leb, eqb-true, eqb-false}
use lib.Dec.{eqb, leb}
use lib.ListN.{length, get_or, take, drop, length-take}
use lib.Seq.{get_or-take, get_or-drop}
use Rattle.laws.specs.Lists.{all}
use Rattle.laws.proofs.Lists.{and_true_split, all_taken}
use Rattle.laws.proofs.Parts.{pad_length, pad_at}
use Rattle.form.specs.Text.{Bytes}
use Rattle.disjunct.specs.Disjuncts.{disjunct_of}
use Rattle.sound.specs.Soundness.{symbol_counts, book_counts, book_sound, slot_counts, state_counts, state_sound}
use Rattle.sound.proofs.Soundness.{book_counts_law}
use Rattle.calls.specs.Checks.{unsound_book, unsound_state}
use Rattle.blocks.specs.Groups.{groups}
use Rattle.blocks.specs.BookBlock.{parameter_in, symbol_in, book_held, book_in}
use Rattle.blocks.specs.StateBlock.{slot_in, disjunct_in, state_held, state_in}
use Rattle.blocks.specs.Lent.{event_left}
use Rattle.blocks.proofs.Groups.{made_length, made_at}
use Rattle.lent_runs.proofs.Checks.{lent_first_failing, other_book, other_state}
use Rattle.lent_runs.proofs.Places.{word_of}

-- a test that cannot pass fails
fails : (z : Bool) → (z ≡ true → ⊥) → z ≡ false
fails true h = absurd (h refl)
fails false h = refl

-- the code of a variable, out of range, is that of no slot whose counts are in range
slot_over : (g : List ℕ) → 7 < get_or g 0 0 → slot_counts (slot_in g) ≡ false
unfolding slot_counts slot_in
slot_over g h = rw (ne_eqb (get_or g 0 0) 7 (λ e. omega arith)) (lt-leb (get_or g 0 0) 6 (omega arith))

-- how many places the struct has
pub pool_size : (s : List ℕ) → length (state_held s).pool ≡ 128
unfolding state_held
pool_size s =
    let M = map disjunct_in (groups 28 128 (drop 131 s)) in
    pad_length 128 (disjunct_of []) (take (get_or s 2 0) M) (omega (arith, length-take (get_or s 2 0) M, made_length disjunct_in 28 128 (drop 131 s)))

-- The words of a held disjunct's variable.
module _ (s : List ℕ) (i v : ℕ) (h : i < get_or s 2 0) (k : i < 128) (u : v < 4) where
  abbrev group : List ℕ
  group = take 28 (drop (28 * i) (drop 131 s))

  abbrev slot : List ℕ
  slot = take 7 (drop (7 * v) group)

  pub held_at_law : get_or (state_held s).pool i (disjunct_in []) ≡ disjunct_in group
  unfolding state_held
  held_at_law =
      let n = get_or s 2 0 in
      let M = map disjunct_in (groups 28 128 (drop 131 s)) in
      pad_at 128 (disjunct_of []) (take n M) i (disjunct_in []) (omega (arith, length-take n M, made_length disjunct_in 28 128 (drop 131 s)))
      ∙ get_or-take n M i (disjunct_in []) h ∙ made_at disjunct_in 28 128 (drop 131 s) i k

  -- its counts are judged
  counts_at : (n : ℕ) → v < n → n ≤ 4 → state_counts n (state_held s) ≡ true → slot_counts (slot_in slot) ≡ true
  unfolding state_counts state_held disjunct_in
  counts_at n m four counts =
      let pool = (state_held s).pool in
      let (few, each) = and_true_split (leb (get_or s 2 0) 128) _ counts in
      let long : length pool ≡ 128 = pool_size s in
      let one = all_taken (λ d. all slot_counts (take n d.vars)) (get_or s 2 0) pool i (disjunct_in []) each (omega (arith, leb-true (get_or s 2 0) 128 few)) h in
      let vars = map slot_in (groups 7 4 group) in
      let here : all slot_counts (take n vars) ≡ true = ap (λ d. all slot_counts (take n d.vars)) (sym held_at_law) ∙ one in
      ap slot_counts (sym (made_at slot_in 7 4 group v u)) ∙ all_taken slot_counts n vars v (slot_in []) here (omega (arith, made_length slot_in 7 4 group)) m

  -- its code is the word that stands there
  code_at : get_or slot 0 0 ≡ get_or s (131 + 28 * i + 7 * v) 0
  code_at =
      word_of 7 (7 * v) group 0 (omega arith) ∙ word_of 28 (28 * i) (drop 131 s) (7 * v + 0) (omega arith) ∙ get_or-drop 131 s (28 * i + (7 * v + 0)) 0
      ∙ ap (λ n. get_or s n 0) (omega arith)

-- The words of a declared symbol's parameter.
module _ (w : List ℕ) (a j : ℕ) (h : a < get_or w 2 0) (k : a < 16) (u : j < get_or w (47 + 10 * a + 1) 0) (v : j < 4) where
  abbrev symbol : List ℕ
  symbol = take 10 (drop (10 * a) (drop 47 w))

  abbrev tag : List ℕ
  tag = take 2 (drop (2 * j) (drop 2 symbol))

  symbol_word : (n : ℕ) → n < 10 → get_or symbol n 0 ≡ get_or w (47 + 10 * a + n) 0
  symbol_word n m = word_of 10 (10 * a) (drop 47 w) n m ∙ get_or-drop 47 w (10 * a + n) 0 ∙ ap (λ n. get_or w n 0) (omega arith)

  tag_word : get_or tag 0 0 ≡ get_or w (47 + 10 * a + 2 + 2 * j) 0
  tag_word =
      word_of 2 (2 * j) (drop 2 symbol) 0 (omega arith) ∙ get_or-drop 2 symbol (2 * j + 0) 0 ∙ symbol_word (2 + (2 * j + 0)) (omega arith)
      ∙ ap (λ n. get_or w n 0) (omega arith)

  -- its tag is judged
  tag_at : book_sound (book_held w) ≡ true → leb (get_or tag 0 0) 2 ≡ true
  unfolding book_sound book_counts book_held symbol_counts symbol_in parameter_in
  tag_at sound =
      let table = map symbol_in (groups 10 16 (drop 47 w)) in
      let few = (book_counts_law (book_held w) sound).1 in
      let counts = (and_true_split (book_counts (book_held w)) _ sound).0 in
      let symbols : all symbol_counts (take (get_or w 2 0) table) ≡ true = (simp and-eq-true_iff at counts).0.1 in
      let one = all_taken symbol_counts (get_or w 2 0) table a (symbol_in []) symbols (omega (arith, few, made_length symbol_in 10 16 (drop 47 w))) h in
      let here : symbol_counts (symbol_in symbol) ≡ true = ap symbol_counts (sym (made_at symbol_in 10 16 (drop 47 w) a k)) ∙ one in
      let ps = map parameter_in (groups 2 4 (drop 2 symbol)) in
      let (four, tags) = and_true_split (leb (get_or symbol 1 0) 4) _ here in
      ap (λ p. leb p.tag 2) (sym (made_at parameter_in 2 4 (drop 2 symbol) j v))
      ∙ all_taken (λ p. leb p.tag 2) (get_or symbol 1 0) ps j (parameter_in []) tags
      (omega (arith, leb-true (get_or symbol 1 0) 4 four, made_length parameter_in 2 4 (drop 2 symbol))) (rw (symbol_word 1 (omega arith)) u)

module _ (w s : List ℕ) (bytes buffer : Bytes) (place : ℕ) (t : List ℕ) where
  -- it is enough to see it of the layouts that are read, and of a sound book
  of_state : (get_or s 0 0 ≡ 2001 → state_sound (book_in w) (state_held s) ≡ false) → (event_left w s bytes buffer place t).number ≡ 9
  unfolding state_in
  of_state h = go (eqb (get_or s 0 0) 2001) refl
    where
      go : (z : Bool) → eqb (get_or s 0 0) 2001 ≡ z → (event_left w s bytes buffer place t).number ≡ 9
      go true e = (lent_first_failing w s bytes buffer place t).nine.1 (unsound_state (rw e (h (eqb-true (get_or s 0 0) 2001 e))))
      go false e = other_state w s bytes buffer place t (eqb-false (get_or s 0 0) 2001 e)

  of_book_law : (get_or w 0 0 ≡ 1001 → book_sound (book_held w) ≡ false) → (event_left w s bytes buffer place t).number ≡ 9
  unfolding book_in
  of_book_law h = go (eqb (get_or w 0 0) 1001) refl
    where
      go : (z : Bool) → eqb (get_or w 0 0) 1001 ≡ z → (event_left w s bytes buffer place t).number ≡ 9
      go true e = (lent_first_failing w s bytes buffer place t).nine.1 (unsound_book (rw e (h (eqb-true (get_or w 0 0) 1001 e))))
      go false e = other_book w s bytes buffer place t (eqb-false (get_or w 0 0) 1001 e)

  pub count_over : 128 < get_or s 2 0 → (event_left w s bytes buffer place t).number ≡ 9
  unfolding state_sound state_counts state_held
  count_over h = of_state (λ _. rw (lt-leb (get_or s 2 0) 128 h))

  -- a code above 7 in the words of a variable that the book has, of a disjunct that is held: never six exclusions
  pub code_over : (i v : ℕ) → i < get_or s 2 0 → i < 128 → v < (book_in w).variables → 7 < get_or s (131 + 28 * i + 7 * v) 0
      → (event_left w s bytes buffer place t).number ≡ 9
  unfolding state_sound
  code_over i v h k u over = go (book_sound (book_in w)) refl
    where
      go : (z : Bool) → book_sound (book_in w) ≡ z → (event_left w s bytes buffer place t).number ≡ 9
      go false e = (lent_first_failing w s bytes buffer place t).nine.1 (unsound_book e)
      go true e = of_state (λ _. fails _ λ sound.
          let four = (book_counts_law (book_in w) e).0 in
          let counts = (and_true_split (state_counts (book_in w).variables (state_held s)) _ sound).0 in
          let low : v < 4 = omega arith in
          false≢true
          (sym (slot_over (slot s i v h k low) (rw (code_at s i v h k low) over)) ∙ counts_at s i v h k low (book_in w).variables u four counts))

  -- a tag above 2 in a parameter that is counted, of a symbol that is declared
  pub tag_over : (a j : ℕ) → a < get_or w 2 0 → a < 16 → j < get_or w (47 + 10 * a + 1) 0 → j < 4 → 2 < get_or w (47 + 10 * a + 2 + 2 * j) 0
      → (event_left w s bytes buffer place t).number ≡ 9
  tag_over a j h k u v over = of_book_law (λ _. fails (book_sound (book_held w)) λ sound.
      let low = leb-true (get_or (tag w a j h k u v) 0 0) 2 (tag_at w a j h k u v sound) in
      omega (arith, low, tag_word w a j h k u v, over))
