-- The checks of a call on a set of books, in words, for any words: document 02, "Several books on one cable". The theorem `set_first_failing` says of what
-- a call hands back that its number is that of the first that fails.
use Rattle.std.specs.Prelude.{◌≡◌, List, [], ◌∷◌, ◌++◌, ◌↔◌, ◌⊎◌, ℕ, suc, ◌+◌, ◌*◌, ◌≤◌, ◌<◌, length, drop, replicate}
use Rattle.laws.specs.Checks.{FirstToFail}
use Rattle.laws.specs.Lists.{gather, numbers}
use Rattle.meaning.specs.Events.{Valuation}
use Rattle.form.specs.Text.{Bytes}
use Rattle.row.specs.RowBytes.{row_size}
use Rattle.calls.specs.Answers.{number_of}
use Rattle.calls.specs.Checks as Single
use Rattle.calls.specs.declared.EventAnswer.{EventAnswer}
use Rattle.calls.specs.declared.EventAnswer.TheVariants.{Accepted, Unsound, OutOfForm, TooMany, NoRoom, NoSpace}
use Rattle.blocks.specs.BookBlock.{book_size, book_in}
use Rattle.blocks.specs.StateBlock.{state_size, state_in}
use Rattle.parts.specs.SetBlock.{set_limit, block_at}

-- the checks by their keys: the count of books; one of a book's own, the book told by what B has for it; the rows of all books together
pub data SetCheck (B : Type 0) : Type 0 where
  of_count : SetCheck B
  of_book : B → EventAnswer → SetCheck B
  of_rows : SetCheck B

-- the number of each
abbrev pub check_number : {B : Type 0} → SetCheck B → ℕ
check_number of_count = 14
check_number (of_book b a) = number_of a
check_number of_rows = 13

-- Any words: books are told by their numbers, from 0.
module _ (books states : List ℕ) (count : ℕ) (bytes buffer : Bytes) (place : ℕ) where
  -- 9 of book number k: its words or its state are not wholly inside what is lent, or they are unsound, or a row would leave a variable free
  pub data UnsoundAt (k : ℕ) : Type 0 where
    book_outside : length books < book_size * suc k → UnsoundAt k
    state_outside : length states < state_size * suc k → UnsoundAt k
    unsound_words : Single.Unsound (book_in (block_at book_size k books)) (state_in (block_at state_size k states)) bytes → UnsoundAt k

  -- the rows of all books together
  abbrev pub set_rows_due : List Valuation
  set_rows_due = gather (λ k. Single.rows_due (book_in (block_at book_size k books)) (state_in (block_at state_size k states)) bytes) (numbers 0 count)

  abbrev pub SetFails : SetCheck ℕ → Type 0
  SetFails of_count = (count ≡ 0) ⊎ (set_limit < count)
  SetFails (of_book k Accepted) = ⊥
  SetFails (of_book k Unsound) = UnsoundAt k
  SetFails (of_book k OutOfForm) = Single.OutOfForm (book_in (block_at book_size k books)) (state_in (block_at state_size k states)) bytes
  SetFails (of_book k TooMany) = Single.TooMany (book_in (block_at book_size k books)) (state_in (block_at state_size k states)) bytes
  SetFails (of_book k NoRoom) = Single.NoRoom (book_in (block_at book_size k books)) (state_in (block_at state_size k states)) bytes
  SetFails (of_book k NoSpace) = ⊥
  SetFails of_rows = length buffer < place + row_size * length set_rows_due

  -- 14 "before all else"; for each book in its turn 9 to 12; 13 "after every other check"
  abbrev pub set_checks : List (SetCheck ℕ)
  set_checks =
      of_count ∷ gather (λ k. of_book k Unsound ∷ of_book k OutOfForm ∷ of_book k TooMany ∷ of_book k NoRoom ∷ []) (numbers 0 count) ++ (of_rows ∷ [])

  -- n is the number of the first that fails, all before it passing, and 0 where none does
  pub record SetFirstFailing (n : ℕ) : Type 0 where
    pub first : FirstToFail SetFails (λ c. SetFails c → ⊥) check_number 0 set_checks n

-- What `watch_set_fresh` hands back and leaves, for any words and any count: 14 for the count; 9 where a state is not wholly inside what is lent; else 0. The
-- theorem `set_fresh_rules` says so of every call.
pub record FreshRules (states : List ℕ) (count number : ℕ) (left : List ℕ) : Type 0 where
  pub fourteen : (number ≡ 14) ↔ ((count ≡ 0) ⊎ (set_limit < count))
  pub nine : (number ≡ 9) ↔ ((1 ≤ count) × (count ≤ set_limit) × (length states < state_size * count))
  pub zero : (number ≡ 0) ↔ ((1 ≤ count) × (count ≤ set_limit) × (state_size * count ≤ length states))
  -- "all unchanged"
  pub stays : (number ≡ 0 → ⊥) → left ≡ states
  -- so many fresh states: the number of the layout, and zeros; the words behind them stay
  pub fresh : number ≡ 0
      → ((k : ℕ) → k < count → block_at state_size k left ≡ 2001 ∷ replicate 3714 0) × (drop (state_size * count) left ≡ drop (state_size * count) states)
      × (length left ≡ length states)
