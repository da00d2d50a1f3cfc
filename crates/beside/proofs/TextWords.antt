-- The words beside `usual`, `words` (crate pattern), `from_left` (form), `name_words_law` and its like (parsing), `held` (book) and the sentences of Judged
-- (least), each with its text.
use mathlib.Core.Path.{◌≡◌, refl}
use mathlib.Core.Bool.{true, not}
use mathlib.Core.List.{List, [], ◌∷◌, ◌++◌, map, Memᴰ}
use mathlib.Core.Logic.{◌⊎◌}
use Prim.Native.Nat.{ℕ, zero, suc, ◌+◌, ◌≤◌, ◌<◌}
use lib.ListN.{length, get_or}
use Rattle.laws.specs.Lists.{gather}
use Rattle.laws.specs.Parts.{pad}
use Rattle.pattern.specs.Regex.{Regex, lit, cat, alt, star, plus, opt}
use Rattle.pattern.specs.Positions.{size}
use Rattle.pattern.proofs.Usual.{marked}
use Rattle.pattern.proofs.Textbook.{Times}
use Rattle.meaning.specs.Events.{ignored, names, fixed}
use Rattle.form.specs.Text.{Bytes, space, is_name_byte, ascii, decimal, SymbolLine}
use Rattle.form.specs.Tokens.{Token, name, sign}
use Rattle.form.proofs.Grammar.{names_in}
use Rattle.parsing.proofs.FormWords.{Named, Lined, argument_written, line_written, name_ends, arguments_of, placed}
use Rattle.book.proofs.Bench.{coded, lined}

pub space_said : space ≡ 32
space_said = refl

pub marked_said : (r s : Regex) (a k : ℕ)
    → (marked (lit a) k ≡ lit k) × (marked (cat r s) k ≡ cat (marked r k) (marked s (k + size r)))
    × (marked (alt r s) k ≡ alt (marked r k) (marked s (k + size r))) × (marked (star r) k ≡ star (marked r k))
    × (marked (plus r) k ≡ plus (marked r k)) × (marked (opt r) k ≡ opt (marked r k))
marked_said r s a k = (refl, refl, refl, refl, refl, refl)

pub times_said : (L : List ℕ → Type 0) (n : ℕ) (w : List ℕ)
    → (Times L zero w ≡ (w ≡ [])) × (Times L (suc n) w ≡ ((u : List ℕ) × (v : List ℕ) × (w ≡ u ++ v) × L u × Times L n v))
times_said L n w = (refl, refl)

pub names_said : (w : Bytes) (b : ℕ) (ts : List Token)
    → (names_in [] ≡ []) × (names_in (name w ∷ ts) ≡ w ∷ names_in ts) × (names_in (sign b ∷ ts) ≡ names_in ts)
names_said w b ts = (refl, refl, refl)

pub named_said : (w : Bytes)
    → Named w
    ≡ ((b : ℕ) × (l : Bytes) × (w ≡ b ∷ l) × (97 ≤ b) × (b ≤ 122) × (length l ≤ 11)
    × ((c : ℕ) → Memᴰ c l → ((97 ≤ c) × (c ≤ 122)) ⊎ ((48 ≤ c) × (c ≤ 57))))
named_said w = refl

pub line_said : (n : ℕ) (l : SymbolLine)
    → Lined n l
    ≡ ((1 ≤ l.kind) × (l.kind ≤ 255) × (length l.parameters ≤ 4) × ((v : ℕ) → Memᴰ (names v) l.parameters → v < n)
    × ((m : ℕ) → Memᴰ (fixed m) l.parameters → m ≤ 4294967295))
line_said n l = refl

pub written_said : (vs : List Bytes) (v : ℕ) (l : SymbolLine)
    → (argument_written vs ignored ≡ 95 ∷ []) × (argument_written vs (names v) ≡ get_or vs v []) × (argument_written vs (fixed v) ≡ 61 ∷ decimal v)
    × (line_written vs l
    ≡ ascii "sym" ++ (32 ∷ l.name ++ (32 ∷ decimal l.kind ++ (gather (λ p. 32 ∷ argument_written vs p) l.parameters ++ (10 ∷ [])))))
written_said vs v l = (refl, refl, refl, refl)

pub ends_said : (b : ℕ) (l : Bytes) → (name_ends [] ≡ true) × (name_ends (b ∷ l) ≡ not (is_name_byte b))
ends_said b l = (refl, refl)

pub arguments_said : (ls : List SymbolLine) (a : ℕ) → arguments_of ls a ≡ get_or (map (λ l. l.parameters) ls) a []
arguments_said [] a = refl
arguments_said (l ∷ ls) zero = refl
arguments_said (l ∷ ls) (suc a) = arguments_said ls a

pub placed_said : (p n : ℕ) → placed p n ≡ record { start = p; size = n }
placed_said p n = refl

pub coded_said : (v : ℕ) (l : SymbolLine)
    → (coded ignored ≡ record { tag = 0; number = 0 }) × (coded (names v) ≡ record { tag = 1; number = v }) × (coded (fixed v) ≡ record { tag = 2; number = v })
    × (lined l
    ≡ record { kind = l.kind; count = length l.parameters; parameters = pad 4 (record { tag = 0; number = 0 }) (map coded l.parameters) })
coded_said v l = (refl, refl, refl, refl)
