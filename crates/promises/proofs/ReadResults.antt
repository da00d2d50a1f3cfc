-- `reading`, `name_place` and `name_bytes`, which the contracts of `read`, `name_place` and `name` cite, keep what is promised of the results, and
-- nothing else does.
use mathlib.Core.Path.{◌≡◌, refl, sym, ap, ◌∙◌}
use mathlib.Core.Bool.{true}
use mathlib.Core.List.{List, [], ◌∷◌, Memᴰ, map}
use mathlib.Core.Logic.{inl, inr}
use Prim.Native.Nat.{ℕ, ◌≤◌, ◌<◌}
use borrow.Author.Tests.{eqb-true, eqb-false, ltb-true, ltb-false}
use lib.Dec.{eqb, ltb}
use lib.ListN.{length, length-map}
use Rattle.laws.specs.Parts.{pad}
use Rattle.pattern.specs.Regex.{Regex}
use Rattle.form.specs.Text as Text
use Rattle.form.specs.Text.{Bytes, is_bytes, SymbolLine, Declarations}
use Rattle.form.specs.Form.{Form, all_names}
use Rattle.form.specs.Lines.{declared_table}
use Rattle.table.specs.Tables.{table_of as held_table, symbol_of}
use Rattle.book.specs.declared.Reading.{Reading}
use Rattle.book.specs.declared.ReadingAnswer.{ReadingAnswer}
use Rattle.book.specs.declared.ReadingAnswer.TheVariants.{Accepted, TooLong, BadLine, AboveLimit, Redeclared}
use Rattle.book.specs.declared.ReadingAnswer.TheVariants.{Undeclared, BadPattern, EmptyWord, Unbound}
use Rattle.book.specs.Answers.{number_of, place_of, answer_of}
use Rattle.book.specs.Books.{book_for, reading, name_place, name_bytes}
use Rattle.book.proofs.Bench as Bench
use Rattle.fault.specs.Fault.{fault_numbers}
use Rattle.fault.specs.Rules.{Rules}
use Rattle.fault.proofs.Ranks.{is_listed}
use Rattle.least.proofs.Refused.{refused}
use Rattle.promises.proofs.Whether.{whether}
use Rattle.promises.specs.ReadResults.{ReadingTold, InForm, line_held, book_declared, ReadGives, PlaceGives, NameGives}

-- the numbers and places that the enum has
pub reading_told : (a : ReadingAnswer) → ReadingTold a (number_of a) (place_of a)
reading_told a = record {
  accepted = λ e. (ap number_of e, ap place_of e);
  too_long = λ e. (ap number_of e, ap place_of e);
  bad_line = λ k e. (ap number_of e, ap place_of e);
  above_limit = λ k e. (ap number_of e, ap place_of e);
  redeclared = λ k e. (ap number_of e, ap place_of e);
  undeclared = λ k e. (ap number_of e, ap place_of e);
  bad_pattern = λ k e. (ap number_of e, ap place_of e);
  empty_word = λ k e. (ap number_of e, ap place_of e);
  unbound = λ k e. (ap number_of e, ap place_of e);
}

-- and no others
pub reading_told_decided : (a : ReadingAnswer) (n m p q : ℕ) → ReadingTold a n p → ReadingTold a m q → (n ≡ m) × (p ≡ q)
reading_told_decided a n m p q x y = go a x y
  where
    both : {i j k l : ℕ} → (i ≡ k) × (j ≡ l) → {g h : ℕ} → (g ≡ k) × (h ≡ l) → (i ≡ g) × (j ≡ h)
    both (c, d) (e, f) = (c ∙ sym e, d ∙ sym f)

    go : (a : ReadingAnswer) → ReadingTold a n p → ReadingTold a m q → (n ≡ m) × (p ≡ q)
    go Accepted x y = both (x.accepted refl) (y.accepted refl)
    go TooLong x y = both (x.too_long refl) (y.too_long refl)
    go (BadLine k) x y = both (x.bad_line k refl) (y.bad_line k refl)
    go (AboveLimit k) x y = both (x.above_limit k refl) (y.above_limit k refl)
    go (Redeclared k) x y = both (x.redeclared k refl) (y.redeclared k refl)
    go (Undeclared k) x y = both (x.undeclared k refl) (y.undeclared k refl)
    go (BadPattern k) x y = both (x.bad_pattern k refl) (y.bad_pattern k refl)
    go (EmptyWord k) x y = both (x.empty_word k refl) (y.empty_word k refl)
    go (Unbound k) x y = both (x.unbound k refl) (y.unbound k refl)

-- the lines of an accepted text, as its book holds them
lines_held : (ls : List SymbolLine) → map symbol_of (map Text.symbol_of ls) ≡ map line_held ls
unfolding symbol_of
lines_held [] = refl
lines_held (l ∷ ls) = ap (line_held l ∷◌) (lines_held ls)

module _ (s : Bytes) where
  book_declared_law : (d : Declarations) (q : Regex) → Form s d q → (reading s).book ≡ book_declared d q
  unfolding book_for held_table symbol_of pad
  book_declared_law d q f =
      let w = Bench.whole s d q f in
      let v : length (declared_table d).variables ≡ length d.variables = sym (ap (λ b. b.variables) w) ∙ (Bench.held s d q f).0 in
      let c : length (declared_table d).table ≡ length d.symbols = length-map d.symbols Text.symbol_of in
      w ∙ rw (v, c, lines_held d.symbols)

  pub read_given : is_bytes s ≡ true → ReadGives s (reading s)
  read_given bytes = record {
    lent = bytes;
    rules = refused s bytes;
    accepted = Bench.accepted s;
    book = book_declared_law;
    beginning = λ (d, q, f). (Bench.counted_bits s d q f).0;
    ending = λ (d, q, f). (Bench.counted_bits s d q f).1;
    refused = λ h.
        let n : number_of (reading s).answer ≡ 0 → ⊥ = λ e. h ((Bench.accepted s).0 e) in
        let (_, x, y) = Bench.refusal_book s n in (Bench.empty_book_law s n, x, y);
  }

  -- number and place of the least fault are one
  fault_one : (p n q m : ℕ) → Rules s p n → Rules s q m → Memᴰ m fault_numbers → (n ≡ m) × (p ≡ q)
  fault_one p n q m f g a = (f.fault m q a).1 ((g.fault m q a).0 (refl, refl))

  -- number and place of the least fault, or of what comes after all faults, are one
  ruled_one : (p n : ℕ) → Rules s p n → (a : ReadingAnswer) → Rules s (place_of a) (number_of a) → (n ≡ number_of a) × (p ≡ place_of a)
  ruled_one p n f Accepted g = f.none.1 (g.none.0 (refl, refl))
  ruled_one p n f TooLong g = f.long.1 (g.long.0 (refl, refl))
  ruled_one p n f (BadLine k) g = fault_one p n k 2 f g (is_listed refl)
  ruled_one p n f (AboveLimit k) g = fault_one p n k 3 f g (is_listed refl)
  ruled_one p n f (Redeclared k) g = fault_one p n k 4 f g (is_listed refl)
  ruled_one p n f (Undeclared k) g = fault_one p n k 5 f g (is_listed refl)
  ruled_one p n f (BadPattern k) g = fault_one p n k 6 f g (is_listed refl)
  ruled_one p n f (EmptyWord k) g =
      let (short, none, (d, r, x, e)) = g.seven.0 refl in
      let m = f.seven.1 (short, none, (d, r, x, e)) in (m, f.first d r x (inl m) ∙ sym (g.first d r x (inl refl)))
  ruled_one p n f (Unbound k) g =
      let (short, none, empty, (d, r, x, e)) = g.eight.0 refl in
      let m = f.eight.1 (short, none, empty, (d, r, x, e)) in (m, f.first d r x (inr m) ∙ sym (g.first d r x (inr refl)))

  -- number and place tell the answer
  told_one : (a : ReadingAnswer) → answer_of (number_of a) (place_of a) ≡ a
  unfolding answer_of
  told_one Accepted = refl
  told_one TooLong = refl
  told_one (BadLine p) = refl
  told_one (AboveLimit p) = refl
  told_one (Redeclared p) = refl
  told_one (Undeclared p) = refl
  told_one (BadPattern p) = refl
  told_one (EmptyWord p) = refl
  told_one (Unbound p) = refl

  same_parts : (x y : Reading) → x.answer ≡ y.answer → x.book ≡ y.book → x.begin_count ≡ y.begin_count → x.end_count ≡ y.end_count → x ≡ y
  same_parts x y p q r z =
      ap (λ k. record { answer = k; book = x.book; begin_count = x.begin_count; end_count = x.end_count }) p
      ∙ ap (λ k. record { answer = y.answer; book = k; begin_count = x.begin_count; end_count = x.end_count }) q
      ∙ ap (λ k. record { answer = y.answer; book = y.book; begin_count = k; end_count = x.end_count }) r
      ∙ ap (λ k. record { answer = y.answer; book = y.book; begin_count = y.begin_count; end_count = k }) z

  -- the answer of the reader decides whether the text is of the stated form
  formed : {P : Type 0} → (InForm s → P) → ((InForm s → ⊥) → P) → P
  formed {P} good bad =
      whether (eqb (number_of (reading s).answer) 0) (λ h. good ((Bench.accepted s).0 (eqb-true _ 0 h)))
      λ h. bad (λ f. eqb-false _ 0 h ((Bench.accepted s).1 f))

  -- two results of one reading are one
  pub reading_decided : (x y : Reading) → ReadGives s x → ReadGives s y → x ≡ y
  reading_decided x y p q =
      formed
      (λ f.
      let (d, t, g) = f in
      let b = p.book d t g ∙ sym (q.book d t g) in
      same_parts x y answers b (p.beginning f ∙ rw b (sym (q.beginning f))) (p.ending f ∙ rw b (sym (q.ending f))))
      λ n.
      let (b, i, j) = p.refused n in
      let (c, k, l) = q.refused n in
      same_parts x y answers (b ∙ sym c) (i ∙ sym k) (j ∙ sym l)
    where
      answers : x.answer ≡ y.answer
      answers =
          let (n, k) = ruled_one _ _ p.rules y.answer q.rules in
          sym (told_one x.answer) ∙ ap (λ m. answer_of m (place_of x.answer)) n ∙ ap (answer_of (number_of y.answer)) k ∙ told_one y.answer

  -- a number is declared or not
  below : (n k : ℕ) {P : Type 0} → (n < k → P) → (k ≤ n → P) → P
  below n k {P} little large = whether (ltb n k) (λ h. little (ltb-true n k h)) λ h. large (ltb-false n k h)

  module _ (n : ℕ) where
    -- not of the stated form is refused
    turned : (InForm s → ⊥) → number_of (reading s).answer ≡ 0 → ⊥
    turned h e = h ((Bench.accepted s).0 e)

    pub place_given : let x = name_place s n in PlaceGives s n x.start x.size
    place_given = record {
      declared = λ d q f h. sym (Bench.names s d q f n h).1;
      beyond = λ d q f h. let e = Bench.no_place s d q f n h in (ap (λ x. x.start) e, ap (λ x. x.size) e);
      refused = λ h. let e = Bench.refused_place s n (turned h) in (ap (λ x. x.start) e, ap (λ x. x.size) e);
    }

    pub place_decided : (a x b y : ℕ) → PlaceGives s n a x → PlaceGives s n b y → (a ≡ b) × (x ≡ y)
    place_decided a x b y p q =
        formed
        (λ (d, t, f). below n (length (all_names d))
        (λ h. let e = sym (p.declared d t f h) ∙ q.declared d t f h in (ap (λ z. z.start) e, ap (λ z. z.size) e))
        λ h. both (p.beyond d t f h) (q.beyond d t f h))
        λ h. both (p.refused h) (q.refused h)
      where
        both : (a ≡ 0) × (x ≡ 0) → (b ≡ 0) × (y ≡ 0) → (a ≡ b) × (x ≡ y)
        both (i, j) (k, l) = (i ∙ sym k, j ∙ sym l)

    pub name_given : NameGives s n (name_bytes s n)
    name_given = record {
      declared = λ d q f h. (Bench.names s d q f n h).0;
      beyond = λ d q f h. Bench.no_name_law s d q f n h;
      refused = λ h. Bench.refused_name s n (turned h);
    }

    pub name_decided : (x y : Bytes) → NameGives s n x → NameGives s n y → x ≡ y
    name_decided x y p q =
        formed
        (λ (d, t, f). below n (length (all_names d)) (λ h. p.declared d t f h ∙ sym (q.declared d t f h)) λ h. p.beyond d t f h ∙ sym (q.beyond d t f h))
        λ h. p.refused h ∙ sym (q.refused h)
