-- What `refused` says, whole; and the words beside `reasons`, `clean_words`, `name_form_words`, `spot_words` and the sentences of Judged
-- (crate least), each with its text.
use mathlib.Core.Path.{◌≡◌, refl}
use mathlib.Core.Bool.{true, false}
use mathlib.Core.List.{List, [], ◌∷◌, ◌++◌, Memᴰ}
use mathlib.Core.Logic.{◌↔◌, ◌⊎◌, inl, inr, ⊎_elim}
use Prim.Native.Nat.{ℕ, ◌+◌, ◌≤◌, ◌<◌}
use lib.ListN.{length}
use Rattle.laws.specs.Lists.{any, all}
use Rattle.pattern.specs.Regex.{Regex, In}
use Rattle.form.specs.Text.{Bytes, is_bytes, ascii, decimal, space, is_lower, is_name_byte, Declarations, header}
use Rattle.form.specs.Form.{Shape, binds}
use Rattle.form.specs.Scan.{at, spaces_end, run, is_space}
use Rattle.parsing.proofs.Accepted.{number_range}
use Rattle.book.specs.Answers.{number_of, place_of}
use Rattle.book.specs.Books.{reading}
use Rattle.book.proofs.Bench.{answer_number}
use Rattle.fault.specs.Places.{On, Ends, spot_at, Word, word_at, NoMatch, Header, PatternLine, TokenAt, before, name_at, token_at}
use Rattle.fault.specs.Places.{occurrences, signs, Pattern, Begins}
use Rattle.fault.specs.Fault.{is_name_form, VariableNamed, SymbolNamed, Fault, Least, NoFault}
use Rattle.fault.specs.Rules.{AdmitsEmpty, LeavesUnbound, Rules}
use Rattle.fault.proofs.Ranks.{listed_range, rank_order}
use Rattle.least.proofs.Sites.{Clean}
use Rattle.least.proofs.Located.{Goes}
use Rattle.least.proofs.Right.{NameFormed}
use Rattle.least.proofs.Judged.{Answers, TokenAnswers, PlaceAnswers}
use Rattle.least.proofs.Reasons.{AtWord, AtToken, Declaring, Arguing, WordTwo, Two, WordThree, TokenThree, WordFour, WordFive}
use Rattle.least.proofs.Reasons.{TokenFive, TokenSix, NoToken, Reason}

pub clean_said : (s : Bytes) (p : ℕ) → Clean s p ≡ ((q n : ℕ) → q < p → Fault s q n → ⊥)
clean_said s p = refl

pub goes_said : (l : Bytes)
    → Goes l ≡ ((u : Bytes) × (b : ℕ) × (v : Bytes) × (l ≡ u ++ (b ∷ v)) × (is_lower b ≡ true) × (all is_name_byte v ≡ true))
goes_said l = refl

pub formed_said : (w : Bytes)
    → NameFormed w
    ≡ ((b : ℕ) × (l : Bytes) × (w ≡ b ∷ l) × (97 ≤ b) × (b ≤ 122)
    × ((c : ℕ) → Memᴰ c l → ((97 ≤ c) × (c ≤ 122)) ⊎ ((48 ≤ c) × (c ≤ 57))))
formed_said w = refl

-- "1 first; then the earliest place; at one place the smaller number; 7, then 8, after everything": what `refused` says, whole
pub least_words : (s : Bytes) (p n : ℕ) → Least s p n ↔ (Fault s p n × ((q m : ℕ) → Fault s q m → (p < q) ⊎ ((p ≡ q) × (n ≤ m))))
least_words s p n = (
  λ l. (l.fault, λ q m g. ⊎_elim inl (λ (e, h). inr (e, (rank_order l.fault g).1 h)) (l.least q m g)),
  λ (f, l). record { fault = f; least = λ q m g. ⊎_elim inl (λ (e, h). inr (e, (rank_order f g).0 h)) (l q m g) },
)

pub faultless_said : (s : Bytes) → NoFault s ≡ ((p n : ℕ) → Fault s p n → ⊥)
faultless_said s = refl

pub admits_said : (s : Bytes) → AdmitsEmpty s ≡ ((d : Declarations) × (r : Regex) × Shape s d r × In r [])
admits_said s = refl

pub unbound_said : (s : Bytes)
    → LeavesUnbound s
    ≡ ((d : Declarations) × (r : Regex) × Shape s d r
    × ((v : ℕ) × (w : List ℕ) × (v < length d.variables) × In r w × (any (binds d v) w ≡ false)))
unbound_said s = refl

pub rules_words : (s : Bytes) (p n : ℕ)
    → Rules s p n
    ↔ ((((n ≡ 1) × (p ≡ 4096)) ↔ (4096 < length s))
    × ((m q : ℕ) → 2 ≤ m → m ≤ 6 → ((n ≡ m) × (p ≡ q)) ↔ ((length s ≤ 4096) × Least s q m))
    × ((n ≡ 7) ↔ ((length s ≤ 4096) × NoFault s × AdmitsEmpty s))
    × ((n ≡ 8) ↔ ((length s ≤ 4096) × NoFault s × (AdmitsEmpty s → ⊥) × LeavesUnbound s))
    × ((d : Declarations) (r : Regex) (f : Shape s d r) → (n ≡ 7) ⊎ (n ≡ 8) → p ≡ length (header d) + 6 + run is_space f.written)
    × (((n ≡ 0) × (p ≡ 0)) ↔ ((length s ≤ 4096) × NoFault s × (AdmitsEmpty s → ⊥) × (LeavesUnbound s → ⊥))))
rules_words s p n = (
  λ r. (r.long, λ m q low high. r.fault m q ((listed_range m).1 (low, high)), r.seven, r.eight, r.first, r.none),
  λ (a, b, c, d, e, f).
      record { long = a; fault = λ m q x. let (low, high) = (listed_range m).0 x in b m q low high; seven = c; eight = d; first = e; none = f },
)

-- no other number than 0 to 8
pub reading_range : (s : Bytes) → number_of (reading s).answer ≤ 8
reading_range s = rw (answer_number s) (number_range s)

-- what `read` hands back at a word, at a token, at a space or at what is missing
module _ (s : Bytes) (bytes : is_bytes s ≡ true) (short : length s ≤ 4096) where
  pub word_said : {k i p : ℕ} (w : Word s k i p) (h : Header s k) (clean : Clean s p) (n : ℕ)
      → Answers s bytes short w h clean n ≡ ((number_of (reading s).answer ≡ n) × (place_of (reading s).answer ≡ p))
  word_said w h clean n = refl

  pub token_said : {k p q : ℕ} (line : PatternLine s k p) (later : k ≡ 1 → ⊥) (gap : at s (p + 5) ≡ space) (t : TokenAt s k p q) (clean : Clean s q) (n : ℕ)
      → TokenAnswers s bytes short line later gap t clean n ≡ ((number_of (reading s).answer ≡ n) × (place_of (reading s).answer ≡ q))
  token_said line later gap t clean n = refl

  pub place_said : {q : ℕ} (clean : Clean s q) (n : ℕ)
      → PlaceAnswers s bytes short clean n ≡ ((number_of (reading s).answer ≡ n) × (place_of (reading s).answer ≡ q))
  place_said clean n = refl

-- every reason from 2 to 6
module _ (s : Bytes) (q : ℕ) where
  pub at_word_said : (P : ℕ → ℕ → Type 0) → AtWord s q P
      ≡ ((k : ℕ) × (i : ℕ) × Word s k i q × Header s k × P k i)
  at_word_said P = refl

  pub at_token_said : (P : ℕ → ℕ → Type 0) → AtToken s q P
      ≡ ((k : ℕ) × (p : ℕ) × PatternLine s k p × (at s (p + 5) ≡ 32) × TokenAt s k p q × P k p)
  at_token_said P = refl

  pub declaring_said : (k i : ℕ) → Declaring s q k i
      ≡ (((k ≡ 0) × (1 ≤ i) × (i ≤ 4)) ⊎ ((1 ≤ k) × (i ≡ 1)))
  declaring_said k i = refl

  pub arguing_said : (k i : ℕ) → Arguing s q k i
      ≡ ((1 ≤ k) × (3 ≤ i) × (i ≤ 6))
  arguing_said k i = refl

  pub word_two_said : (k i : ℕ) → WordTwo s q k i
      ≡ (((k ≡ 0) × (i ≡ 0) × (word_at s q ≡ ascii "vars" → ⊥)) ⊎ (((1 ≤ k) × (i ≡ 0) × (word_at s q ≡ ascii "sym" → ⊥))
      ⊎ ((Declaring s q k i × (is_name_form (word_at s q) ≡ false)) ⊎ (((1 ≤ k) × (i ≡ 2) × ((n : ℕ) → 1 ≤ n → n ≤ 255 → word_at s q ≡ decimal n → ⊥))
      ⊎ ((Arguing s q k i × (word_at s q ≡ ascii "_" → ⊥) × ((v : Bytes) → word_at s q ≡ 61 ∷ v → ⊥) × (is_name_form (word_at s q) ≡ false))
      ⊎ (Arguing s q k i × ((v : Bytes) × (word_at s q ≡ 61 ∷ v) × ((n : ℕ) → n ≤ 4294967295 → v ≡ decimal n → ⊥))))))))
  word_two_said k i = refl

  pub two_said : Two s q
      ≡ (AtWord s q (WordTwo s q)
      ⊎ (((k : ℕ) × On s k q × NoMatch s k × (at s q ≡ 32) × ((spot_at s q).words ≡ 0))
      ⊎ (((k : ℕ) × (p : ℕ) × On s k p × Header s k × (at s p ≡ 32) × (at s (p + 1) ≡ 32) × (q ≡ p + 1))
      ⊎ (((k : ℕ) × On s k q × Header s k × (at s q ≡ 32) × Ends s (spaces_end s q))
      ⊎ (((k : ℕ) × On s k q × Header s k × Ends s q × (((k ≡ 0) × ((spot_at s q).words < 1)) ⊎ ((1 ≤ k) × ((spot_at s q).words < 3))))
      ⊎ ((Word s 1 0 q × (word_at s q ≡ ascii "match"))
      ⊎ (((k : ℕ) × (p : ℕ) × PatternLine s k p × (at s (p + 5) ≡ 32 → ⊥) × (q ≡ p + 5))
      ⊎ (((k : ℕ) × On s k q × NoMatch s k × (q ≡ length s))
      ⊎ ((k : ℕ) × (p : ℕ) × (e : ℕ) × PatternLine s k p × On s k e × (at s e ≡ 10) × (e + 1 < length s) × (q ≡ e + 1))))))))))
  two_said = refl

  pub word_three_said : (k i : ℕ) → WordThree s q k i
      ≡ (((k ≡ 17) × (i ≡ 0) × (word_at s q ≡ ascii "sym"))
      ⊎ (((Declaring s q k i ⊎ Arguing s q k i) × (is_name_form (word_at s q) ≡ true) × (12 < length (word_at s q)))
      ⊎ (((k ≡ 0) × (i ≡ 5)) ⊎ ((1 ≤ k) × (i ≡ 7)))))
  word_three_said k i = refl

  pub token_three_said : (k p : ℕ) → TokenThree s q k p
      ≡ (((is_lower (at s q) ≡ true) × ((12 < length (name_at s q)) ⊎ (31 ≤ occurrences (before s p q))))
      ⊎ ((at s q ≡ 40) × (16 + signs 41 (before s p q) ≤ signs 40 (before s p q))))
  token_three_said k p = refl

  pub word_four_said : (k i : ℕ) → WordFour s q k i
      ≡ (Declaring s q k i × ((j : ℕ) × (h : ℕ) × (p : ℕ) × Word s j h p × Declaring s q j h × (p < q) × (word_at s p ≡ word_at s q)))
  word_four_said k i = refl

  pub word_five_said : (k i : ℕ) → WordFive s q k i
      ≡ (Arguing s q k i × (is_name_form (word_at s q) ≡ true) × (VariableNamed s (word_at s q) → ⊥))
  word_five_said k i = refl

  pub token_five_said : (k p : ℕ) → TokenFive s q k p
      ≡ ((is_lower (at s q) ≡ true) × (SymbolNamed s k (name_at s q) → ⊥))
  token_five_said k p = refl

  pub token_six_said : (k p : ℕ) → TokenSix s q k p
      ≡ (Begins (before s p q) × (Begins (before s p q ++ (token_at s q ∷ [])) → ⊥))
  token_six_said k p = refl

  pub no_token_said : NoToken s q
      ≡ ((k : ℕ) × (p : ℕ) × PatternLine s k p × (at s (p + 5) ≡ 32) × On s k q × Ends s q × Begins (before s p q) × (Pattern (before s p q) → ⊥))
  no_token_said = refl

  pub reason_said : (n : ℕ) → Reason s q n
      ≡ (((n ≡ 2) × Two s q) ⊎ (((n ≡ 3) × (AtWord s q (WordThree s q) ⊎ AtToken s q (TokenThree s q))) ⊎ (((n ≡ 4) × AtWord s q (WordFour s q))
      ⊎ (((n ≡ 5) × (AtWord s q (WordFive s q) ⊎ AtToken s q (TokenFive s q))) ⊎ ((n ≡ 6) × (AtToken s q (TokenSix s q) ⊎ NoToken s q))))))
  reason_said n = refl
