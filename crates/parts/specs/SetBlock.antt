-- A set of books in lent words: the books one behind the other in one slice, their states in another, and a count. What the calls of a set hand back and
-- leave, decided whole, for any words, count, record, buffer, place and tally. The contracts of the crate lent_set repeat it; the theorems of set_runs are
-- about it.
use Rattle.std.specs.Prelude.{Bool, cond, ◌||◌, List, [], ◌∷◌, ◌++◌, map, ℕ, suc, ◌*◌, eqb, ltb, length, take, drop}
use Rattle.laws.specs.Checks.{Check, first_failing}
use Rattle.laws.specs.Lists.{gather, numbers}
use Rattle.laws.specs.Parts.{front}
use Rattle.form.specs.Text.{Bytes}
use Rattle.record.specs.Records.{event_in}
use Rattle.calls.specs.declared.EventAnswer.{EventAnswer}
use Rattle.calls.specs.Answers.{number_of}
use Rattle.calls.specs.Calls.{fresh_state, decisions}
use Rattle.blocks.specs.BookBlock.{book_size, book_in}
use Rattle.blocks.specs.StateBlock.{state_size, state_in, state_words, state_stored}
use Rattle.blocks.specs.TallyBlock.{tally_in, tally_words}
use Rattle.parts.specs.Parts.{Part, part_next, parts_left}

-- "up to 8 books"
abbrev pub set_limit : ℕ
set_limit = 8

-- 14: "for a set of no books or more than 8"
unfoldable pub bad_count : ℕ → Bool
bad_count n = eqb n 0 || ltb set_limit n

abbrev pub count_checks : ℕ → List (Check ℕ)
count_checks n = record { fails = bad_count n; answer = 14 } ∷ []

-- the k-th block of so many words, from 0
abbrev pub block_at : (size k : ℕ) → List ℕ → List ℕ
block_at size k w = take size (drop (size * k) w)

-- whether the k-th block is not wholly inside the words
abbrev pub beyond_end : (size k : ℕ) → List ℕ → Bool
beyond_end size k w = ltb (length w) (size * suc k)

-- a check by the number of its answer
abbrev pub by_number : Check EventAnswer → Check ℕ
by_number c = record { fails = c.fails; answer = number_of c.answer }

module _ (books states : List ℕ) (bytes : Bytes) where
  -- 9, in its turn: a book whose words or whose state are not wholly inside what is lent is unsound
  unfoldable pub outside : ℕ → Bool
  outside k = beyond_end book_size k books || beyond_end state_size k states

  -- book number k with its state; "the book number (0 to 7) in byte 5"; its own checks are 9 to 12, as it has them alone
  unfoldable pub book_part : ℕ → Part
  book_part k =
      let b = book_in (block_at book_size k books) in
      let s = state_in (block_at state_size k states) in
      record {
        book = b;
        state = s;
        byte5 = k;
        byte6 = 0;
        checks = record { fails = outside k; answer = 9 } ∷ map by_number (decisions b s bytes);
      }

  -- the books of a set of n
  abbrev pub parts_in : ℕ → List Part
  parts_in n = map book_part (numbers 0 n)

  -- the state of each book stored in its own block; the words behind count × size stay
  unfoldable pub states_after : ℕ → List ℕ
  states_after n =
      gather (λ k. state_stored (block_at state_size k states) (part_next (event_in bytes) (book_part k))) (numbers 0 n) ++ drop (state_size * n) states

-- what `watch_set_event` hands back (the number) and leaves: the count of rows, the buffer, the tally's words and the states'
pub record SetLeft : Type 0 where
  pub number : ℕ
  pub rows : ℕ
  pub buffer : Bytes
  pub tally : List ℕ
  pub states : List ℕ

-- the event over the books of the set, 14 "before all else"; the states' words stay on refusal
unfoldable pub set_left : (books states : List ℕ) (count : ℕ) (bytes buffer : Bytes) (place : ℕ) (tally : List ℕ) → SetLeft
set_left w s n bytes buffer place t =
    let r = parts_left (count_checks n) (parts_in w s bytes n) (event_in bytes) buffer place (tally_in t) in
    record {
      number = r.number;
      rows = r.rows;
      buffer = r.buffer;
      tally = tally_words r.tally;
      states = cond (eqb r.number 0) (states_after w s bytes n) s;
    }

-- what `watch_set_fresh` hands back (the number) and leaves: the states' words
pub record SetFresh : Type 0 where
  pub number : ℕ
  pub states : List ℕ

-- 14 for the count, then 9 where a state is not wholly inside; else so many fresh states, and the words behind them stay
unfoldable pub set_fresh : (states : List ℕ) (count : ℕ) → SetFresh
set_fresh s n =
    let number = first_failing 0 (count_checks n ++ map (λ k. record { fails = beyond_end state_size k s; answer = 9 }) (numbers 0 n)) in
    record { number = number; states = cond (eqb number 0) (front (gather (λ k. state_words fresh_state) (numbers 0 n)) s) s }
