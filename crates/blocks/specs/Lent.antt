-- What the lent calls hand back and leave, decided whole, for any text, words, record, buffer, place and tally: the calls of the crates reader and
-- watch over what the words say. The contracts of the crate lent repeat it; the theorems of lent_runs are about it.
use Rattle.std.specs.Prelude.{cond, List, ℕ, eqb, replicate}
use Rattle.form.specs.Text.{Bytes}
use Rattle.book.specs.Answers as Reading
use Rattle.book.specs.Books.{reading}
use Rattle.calls.specs.Answers.{number_of}
use Rattle.calls.specs.Calls.{is_accepted, taken, buffer_after}
use Rattle.blocks.specs.BookBlock.{book_size, book_in, book_words}
use Rattle.blocks.specs.StateBlock.{state_in, state_stored}
use Rattle.blocks.specs.TallyBlock.{tally_in, tally_words}

-- what `watch_read` hands back (the number) and leaves: the book's words, the place, and the counts of beginning and of ending positions
pub record ReadLeft : Type 0 where
  pub number : ℕ
  pub book : List ℕ
  pub place : ℕ
  pub begins : ℕ
  pub ends : ℕ

-- a refused text leaves a book of zeros
unfoldable pub read_left : Bytes → ReadLeft
read_left text =
    let r = reading text in
    let n = Reading.number_of r.answer in
    record {
      number = n;
      book = cond (eqb n 0) (book_words r.book) (replicate book_size 0);
      place = Reading.place_of r.answer;
      begins = r.begin_count;
      ends = r.end_count;
    }

-- what `watch_event` hands back (the number) and leaves: the count of rows, the buffer, the tally's words and the state's
pub record EventLeft : Type 0 where
  pub number : ℕ
  pub rows : ℕ
  pub buffer : Bytes
  pub tally : List ℕ
  pub state : List ℕ

-- the event call over the book, the state and the tally that the words say; the state's words stay on refusal
unfoldable pub event_left : (book state : List ℕ) (bytes buffer : Bytes) (place : ℕ) (tally : List ℕ) → EventLeft
event_left w s bytes buffer place t =
    let r = taken (book_in w) (state_in s) bytes buffer place (tally_in t) in
    record {
      number = number_of r.answer;
      rows = r.rows;
      buffer = buffer_after (book_in w) (state_in s) bytes buffer place;
      tally = tally_words r.tally;
      state = cond (is_accepted r.answer) (state_stored s r.state) s;
    }
