-- A book of its parts: read from the parts of a block of words (`held`), and put into them one behind the other (`put_book`).
use mathlib.Core.Path.{◌≡◌, refl, ap, ap₂, ◌∙◌}
use mathlib.Core.Bool.{not}
use mathlib.Core.List.{List, map, ◌++◌, append_assoc, Memᴰ}
use Prim.Native.Nat.{ℕ, ◌+◌, ◌-◌, ◌≤◌}
use native.Mathlib.Omega.{arith}
use borrow.Rule.Slice.PartMut.{mid_of, put_mid}
use lib.Dec.{eqb}
use lib.ListN.{length, take, drop, get_or, length-append}
use Rattle.laws.specs.Lists.{gather}
use Rattle.laws.specs.Parts.{front, splice}
use Rattle.laws.proofs.Fronts.{front_whole, front_append, lent_front, lent_rest, gather_length}
use Rattle.table.specs.declared.Symbol.{Symbol}
use Rattle.table.specs.declared.Name.{Name}
use Rattle.book.specs.declared.Book.{Book}
use Rattle.blocks.specs.Groups.{groups}
use Rattle.blocks.specs.BookBlock.{name_in, symbol_in, book_held, name_words, symbol_words, book_head, book_words}

-- the parts that are lent to the end of the block
module _ (w : List ℕ) where
  abbrev rest : ℕ → List ℕ
  rest p = take (length w - p) (drop p w)

  abbrev with_parts : List Name → List Symbol → List ℕ → List ℕ → Book
  with_parts ns ys os fs =
      record {
        variables = get_or w 1 0;
        symbols = get_or w 2 0;
        names = ns;
        table = ys;
        positions = get_or w 3 0;
        occurrences = os;
        begins = get_or w 4 0;
        ends = get_or w 5 0;
        follows = fs;
        empty = not (eqb (get_or w 6 0) 0);
      }

  pub parts_held : {ns : List Name} {ys : List Symbol} {os fs : List ℕ} → ns ≡ map name_in (groups 2 20 (rest 7)) → ys ≡ map symbol_in (groups 10 16 (rest 47))
      → os ≡ take 31 (rest 207) → fs ≡ take 31 (rest 238) → with_parts ns ys os fs ≡ book_held w
  unfolding book_held
  parts_held {ns} {ys} {os} {fs} a b c d =
      let ns₁ = map name_in (groups 2 20 (drop 7 w)) in
      let ys₁ = map symbol_in (groups 10 16 (drop 47 w)) in
      ap₂ (λ n y. with_parts n y os fs) (a ∙ ap (λ r. map name_in (groups 2 20 r)) (lent_rest 7 w)) (b ∙ ap (λ r. map symbol_in (groups 10 16 r)) (lent_rest 47 w))
      ∙ ap₂ (λ o f. with_parts ns₁ ys₁ o f) (c ∙ ap (take 31) (lent_rest 207 w)) (d ∙ ap (take 31) (lent_rest 238 w))

-- b behind a, which is put already, in the part that is lent from p to the end
next_part : (p : ℕ) (a b l : List ℕ) {k m : List ℕ} → length a ≡ p → p + length b ≤ length l → k ≡ front a l → m ≡ front b (mid_of p (length k - p) k)
    → put_mid p (length k - p) k m ≡ front (a ++ b) l
unfolding front
next_part p a b l {k} size fits before made =
    let long : length k ≡ length a + length (drop (length a) l) = ap length before ∙ length-append a (drop (length a) l) in
    lent_front p b k (omega arith) made ∙ ap (splice p b) before ∙ front_append a b l p size fits

module _ (b : Book) (few : length b.names ≡ 20) (many : length b.table ≡ 16) (each : (y : Symbol) → Memᴰ y b.table → length (symbol_words y) ≡ 10)
    (occurrences : length b.occurrences ≡ 31) (follows : length b.follows ≡ 31) where
  abbrev names : List ℕ
  names = gather name_words b.names

  abbrev table : List ℕ
  table = gather symbol_words b.table

  names_length : length names ≡ 40
  names_length = omega (arith, gather_length name_words 2 b.names (λ x m. refl))

  table_length : length table ≡ 160
  table_length = omega (arith, gather_length symbol_words 10 b.table each)

  pub parts_put : (l : List ℕ) {l₁ l₂ l₃ l₄ l₅ m₁ m₂ m₃ m₄ : List ℕ} → length l ≡ 269 → l₁ ≡ front (book_head b) l
      → m₁ ≡ front names (mid_of 7 (length l₁ - 7) l₁) → l₂ ≡ put_mid 7 (length l₁ - 7) l₁ m₁
      → m₂ ≡ front table (mid_of 47 (length l₂ - 47) l₂) → l₃ ≡ put_mid 47 (length l₂ - 47) l₂ m₂
      → m₃ ≡ front b.occurrences (mid_of 207 (length l₃ - 207) l₃) → l₄ ≡ put_mid 207 (length l₃ - 207) l₃ m₃
      → m₄ ≡ front b.follows (mid_of 238 (length l₄ - 238) l₄) → l₅ ≡ put_mid 238 (length l₄ - 238) l₄ m₄ → l₅ ≡ book_words b
  unfolding book_words
  parts_put l size h₁ k₁ h₂ k₂ h₃ k₃ h₄ k₄ h₅ =
      let head = book_head b in
      let n = names_length in
      let t = table_length in
      let s₁ : length (head ++ names) ≡ 47 = omega (arith, length-append head names) in
      let s₂ : length ((head ++ names) ++ table) ≡ 207 = omega (arith, length-append (head ++ names) table) in
      let s₃ : length (((head ++ names) ++ table) ++ b.occurrences) ≡ 238 = omega (arith, length-append ((head ++ names) ++ table) b.occurrences) in
      let s₄ : length ((((head ++ names) ++ table) ++ b.occurrences) ++ b.follows) ≡ 269 =
      omega (arith, length-append (((head ++ names) ++ table) ++ b.occurrences) b.follows) in
      let e₂ = h₂ ∙ next_part 7 head names l refl (omega arith) h₁ k₁ in
      let e₃ = h₃ ∙ next_part 47 (head ++ names) table l s₁ (omega arith) e₂ k₂ in
      let e₄ = h₄ ∙ next_part 207 ((head ++ names) ++ table) b.occurrences l s₂ (omega arith) e₃ k₃ in
      h₅ ∙ next_part 238 (((head ++ names) ++ table) ++ b.occurrences) b.follows l s₃ (omega arith) e₄ k₄ ∙ front_whole _ l (omega arith)
      ∙ simp append_assoc
