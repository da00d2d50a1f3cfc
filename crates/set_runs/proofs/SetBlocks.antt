-- Blocks of one size, one behind the other: the k-th of them, in the words of the books and of fresh states, and in what is stored. For the course of a set.
use mathlib.Core.Path.{◌≡◌, refl, sym, ap, subst, ◌∙◌}
use mathlib.Core.List.{List, [], ◌∷◌, ◌++◌, append_assoc, Memᴰ}
use Prim.Native.Nat.{ℕ, zero, suc, ◌+◌, ◌*◌, ◌≤◌, ◌<◌}
use native.Mathlib.Omega.{arith}
use borrow.Author.Tests.{eq-eqb}
use lib.ListN.{length, take, drop, length-drop, length-append}
use lib.Seq.{take_at, drop-append-add, length-take-le}
use Rattle.laws.specs.Lists.{gather, numbers}
use Rattle.runs.specs.Runs.{Within}
use Rattle.runs.proofs.Runs.{within_head, within_tail, within_more, within_none}
use Rattle.pattern.specs.Regex.{Regex}
use Rattle.meaning.specs.Meaning.{Tracematch}
use Rattle.form.specs.Text.{Bytes, Declarations}
use Rattle.form.specs.Form.{Form}
use Rattle.book.specs.Answers.{number_of}
use Rattle.book.specs.Books.{reading}
use Rattle.demands.proofs.Bridge.{Read, read}
use Rattle.blocks.specs.BookBlock.{book_in}
use Rattle.blocks.specs.Lent.{read_left}
use Rattle.blocks.proofs.Books.{book_length}
use Rattle.lent_runs.proofs.Reading.{read_sized, read_back, read_accepts}
use Rattle.parts.specs.SetBlock.{block_at}
use Rattle.set_runs.specs.Setting.{books_of, AllDeclare, none_declared, one_declared}

module _ (size : ℕ) where
  pub block_first : (x rest : List ℕ) → length x ≡ size → block_at size 0 (x ++ rest) ≡ x
  block_first x rest h = let e : size * 0 ≡ 0 = omega arith in rw e (take_at x rest size h)

  pub block_next : (x rest : List ℕ) (k : ℕ) → length x ≡ size → block_at size (suc k) (x ++ rest) ≡ block_at size k rest
  block_next x rest k h =
      let e : size * suc k ≡ length x + size * k = omega arith in
      ap (take size) (ap (λ n. drop n (x ++ rest)) e ∙ drop-append-add x rest (size * k))

  pub block_long : (w : List ℕ) (k : ℕ) → size * suc k ≤ length w → length (block_at size k w) ≡ size
  block_long w k h =
      let e : size * suc k ≡ size * k + size = omega arith in
      length-take-le size (drop (size * k) w) (omega (arith, length-drop (size * k) w, e))

  -- of what is gathered, element by element
  pub block_gather : {A : Type 0} (f : A → List ℕ) (l : List A) → ((x : A) → Memᴰ x l → length (f x) ≡ size) → (rest : List ℕ) (k : ℕ) (x : A)
      → Within l k x → block_at size k (gather f l ++ rest) ≡ f x
  block_gather f [] sizes rest k x w = absurd (within_none w)
  block_gather f (y ∷ l) sizes rest zero x w =
      ap (block_at size 0) (append_assoc (f y) (gather f l) rest) ∙ block_first (f y) (gather f l ++ rest) (sizes y (Memᴰ.head refl))
      ∙ ap f (sym (within_head w))
  block_gather f (y ∷ l) sizes rest (suc k) x w =
      ap (block_at size (suc k)) (append_assoc (f y) (gather f l) rest) ∙ block_next (f y) (gather f l ++ rest) k (sizes y (Memᴰ.head refl))
      ∙ block_gather f l (λ z m. sizes z (Memᴰ.tail m)) rest k x (within_tail w)

-- the k-th of neighbouring numbers
numbers_within : (j n k : ℕ) → k < n → Within (numbers j n) k (j + k)
numbers_within j zero k h = absurd (omega arith)
numbers_within j (suc n) zero h = let e : j + 0 ≡ j = omega arith in record { inside = omega arith; at = λ d. sym e }
numbers_within j (suc n) (suc k) h =
    let e : suc j + k ≡ j + suc k = omega arith in
    subst (Within (numbers j (suc n)) (suc k)) e (within_more j (numbers_within (suc j) n k (omega arith)))

pub numbers_from : (n k : ℕ) → k < n → Within (numbers 0 n) k k
numbers_from n k h = let e : 0 + k ≡ k = omega arith in subst (Within (numbers 0 n) k) e (numbers_within 0 n k h)

-- the elements of a list from number k on
module _ {A : Type 0} (l : List A) where
  abbrev pub Among : ℕ → List A → Type 0
  Among k us = (j : ℕ) (x : A) → Within us j x → Within l (k + j) x

  pub among_first : (k : ℕ) (x : A) (us : List A) → Among k (x ∷ us) → Within l k x
  among_first k x us a = let e : k + 0 ≡ k = omega arith in rw e at (a 0 x (record { inside = omega arith; at = λ d. refl }))

  pub among_rest : (k : ℕ) (x : A) (us : List A) → Among k (x ∷ us) → Among (suc k) us
  among_rest k x us a j y w = let e : k + suc j ≡ suc k + j = omega arith in rw e at (a (suc j) y (within_more x w))

  pub among_all : Among 0 l
  among_all j x w = let e : j ≡ 0 + j = omega arith in rw e at w

-- the words of a read text
pub read_long : (text : Bytes) (d : Declarations) (r : Regex) → Form text d r → length (read_left text).book ≡ 269
unfolding read_left
read_long text d r f =
    let zero : number_of (reading text).answer ≡ 0 = (read_accepts text).1 (d, r, f) in
    rw (eq-eqb (number_of (reading text).answer) 0 zero) (book_length (reading text).book (read_sized text d r f))

-- book number k of a set: its text, its words among those of the set, and the struct that they say
pub record BookAt (texts : List Bytes) (more : List ℕ) (k : ℕ) (tm : Tracematch) : Type 0 where
  pub text : Bytes
  pub there : Within texts k text
  pub words : block_at 269 k (books_of texts more) ≡ (read_left text).book
  pub reads : Read (book_in (block_at 269 k (books_of texts more))) tm

pub book_at : {texts : List Bytes} {tms : List Tracematch} → AllDeclare texts tms → (more : List ℕ) (k : ℕ) (tm : Tracematch) → Within tms k tm
    → BookAt texts more k tm
book_at none_declared more k tm w = absurd (within_none w)
book_at (one_declared {text = text} {texts = texts} d r f ds) more zero tm w =
    let x = (read_left text).book in
    let e : block_at 269 0 (books_of (text ∷ texts) more) ≡ x =
    ap (block_at 269 0) (append_assoc x (gather (λ text. (read_left text).book) texts) more) ∙ block_first 269 x (books_of texts more) (read_long text d r f) in
    record {
      text = text;
      there = record { inside = omega arith; at = λ d. refl };
      words = e;
      reads = rw (e, read_back text ((read_accepts text).1 (d, r, f)), within_head w) (read text d r f);
    }
book_at (one_declared {text = text} {texts = texts} d r f ds) more (suc k) tm w =
    let x = (read_left text).book in
    let b = book_at ds more k tm (within_tail w) in
    let e : block_at 269 (suc k) (books_of (text ∷ texts) more) ≡ block_at 269 k (books_of texts more) =
    ap (block_at 269 (suc k)) (append_assoc x (gather (λ text. (read_left text).book) texts) more)
    ∙ block_next 269 x (books_of texts more) k (read_long text d r f) in
    record { text = b.text; there = within_more text b.there; words = e ∙ b.words; reads = rw e b.reads }

-- as many texts as tracematches, and their words
pub declares_length : {texts : List Bytes} {tms : List Tracematch} → AllDeclare texts tms → length texts ≡ length tms
declares_length none_declared = refl
declares_length (one_declared d r f ds) = ap suc (declares_length ds)

pub books_long : {texts : List Bytes} {tms : List Tracematch} → AllDeclare texts tms → (more : List ℕ) → 269 * length texts ≤ length (books_of texts more)
books_long none_declared more = omega arith
books_long (one_declared {text = text} {texts = texts} d r f ds) more =
    let x = (read_left text).book in
    let rest = gather (λ text. (read_left text).book) texts in
    omega (arith, books_long ds more, read_long text d r f, ap length (append_assoc x rest more), length-append x (rest ++ more))
