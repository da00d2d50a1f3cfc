-- Calls on sets of books with what they must leave, for the theorem `set_samples_law`: document 02, "Several books on one cable". For the buyer.
use Rattle.std.specs.Prelude.{List, [], ◌∷◌, ◌++◌, ℕ, ◌+◌, ◌*◌, take, replicate}
use Rattle.laws.specs.Lists.{gather, numbers}
use Rattle.form.specs.Text.{Bytes, ascii}
use Rattle.blocks.specs.Lent.{read_left}
use Rattle.parts.specs.SetBlock.{SetLeft, SetFresh}

-- what is lent, and what must be left
pub record SetSample : Type 0 where
  pub books : List ℕ
  pub states : List ℕ
  pub count : ℕ
  pub bytes : Bytes
  pub buffer : Bytes
  pub place : ℕ
  pub tally : List ℕ
  pub left : SetLeft

-- a book, whose words are all that are read of it: after an `o` each `a` is a row, once; and a block of zeros, which is no book
abbrev pub sound : List ℕ
sound = (read_left (ascii "vars v\nsym o 2\nsym a 1 v\nmatch o a\n")).book

abbrev pub no_book : List ℕ
no_book = replicate 269 0

-- states of it: after so many events nothing is held; or an `o` is, with so many values of v excluded
abbrev pub idle : ℕ → List ℕ
idle n = 2001 ∷ n ∷ replicate 3713 0

abbrev pub opened : (number excluded : ℕ) → List ℕ → List ℕ
opened n x rest = 2001 ∷ n ∷ 1 ∷ 1 ∷ replicate 127 0 ++ (x ∷ rest)

-- no value is excluded: a(7) is a row; six are: a(7) has no room
abbrev pub waiting_at : ℕ → List ℕ
waiting_at n = opened n 0 (replicate 3583 0)

abbrev pub waiting : List ℕ
waiting = waiting_at 1

abbrev pub full : List ℕ
full = opened 1 6 (1 ∷ 2 ∷ 3 ∷ 4 ∷ 5 ∷ 6 ∷ replicate 3577 0)

-- the state behind a(7): 7 is excluded
abbrev pub moved : ℕ → List ℕ
moved n = opened n 1 (7 ∷ replicate 3582 0)

-- the record of a(7), and one of 19 bytes
abbrev pub seven : Bytes
seven = 1 ∷ 1 ∷ 0 ∷ 0 ∷ 7 ∷ replicate 15 0

abbrev pub short : Bytes
short = replicate 19 1

-- a refused call leaves all but one refused event more
abbrev pub refusing : (number : ℕ) (books states : List (List ℕ)) (count : ℕ) → Bytes → (size place : ℕ) → SetSample
refusing n bs ss k record_bytes size place =
    record {
      books = gather (λ b. b) bs;
      states = gather (λ s. s) ss;
      count = k;
      bytes = record_bytes;
      buffer = replicate size 255;
      place = place;
      tally = 5 ∷ 6 ∷ 7 ∷ [];
      left = record { number = n; rows = 0; buffer = replicate size 255; tally = 5 ∷ 7 ∷ 7 ∷ []; states = gather (λ s. s) ss };
    }

-- the row of v = 7, of event number n, of book number k
abbrev pub row : (n k : ℕ) → Bytes
row n k = n ∷ 0 ∷ 0 ∷ 0 ∷ 1 ∷ k ∷ 0 ∷ 0 ∷ 7 ∷ replicate 15 0

-- so many books take the event
abbrev pub taking : ℕ → SetSample
taking n =
    record {
      books = gather (λ b. b) (replicate n sound);
      states = gather (λ s. s) (replicate n waiting);
      count = n;
      bytes = seven;
      buffer = replicate (24 * n) 255;
      place = 0;
      tally = 5 ∷ 6 ∷ 7 ∷ [];
      left = record {
        number = 0;
        rows = n;
        buffer = gather (row 2) (numbers 0 n);
        tally = 6 ∷ 6 ∷ (7 + n) ∷ [];
        states = gather (λ s. s) (replicate n (moved 2));
      };
    }

abbrev pub set_samples : List SetSample
set_samples =
    -- book 0 no room and book 5 unsound: 12
    refusing 12 (replicate 5 sound ++ (no_book ∷ [])) (full ∷ replicate 5 waiting) 6 seven 500 0
    -- a bad record and book 5 unsound: 10
    ∷ refusing 10 (replicate 5 sound ++ (no_book ∷ [])) (replicate 6 waiting) 6 short 500 0
    -- book 0 at 1,000,000 and book 1 no room: 11
    ∷ refusing 11 (replicate 2 sound) (idle 1000000 ∷ full ∷ []) 2 seven 500 0
    -- each book fits and the sum does not: 13
    ∷ refusing 13 (replicate 2 sound) (replicate 2 waiting) 2 seven 47 0
    -- the place is beyond the buffer and book 7 has no room: 12
    ∷ refusing 12 (replicate 8 sound) (replicate 7 waiting ++ (full ∷ [])) 8 seven 500 501
    -- no book, or nine, and a bad record: 14
    ∷ refusing 14 (sound ∷ []) (waiting ∷ []) 0 short 500 0
    ∷ refusing 14 (replicate 9 sound) (replicate 9 waiting) 9 short 500 0
    -- the words of book 1, or its state, end one word too early: 9, but 12 where book 0 has no room
    ∷ refusing 9 (sound ∷ take 268 sound ∷ []) (replicate 2 waiting) 2 seven 500 0
    ∷ refusing 9 (replicate 2 sound) (waiting ∷ take 3714 waiting ∷ []) 2 seven 500 0
    ∷ refusing 12 (sound ∷ take 268 sound ∷ []) (full ∷ waiting ∷ []) 2 seven 500 0
    -- both books take the event: rows in book order, each with the event's number in its own state; one event, two rows; a word behind the states stays
    ∷ record {
      books = sound ++ sound;
      states = waiting_at 1 ++ waiting_at 41 ++ (99 ∷ []);
      count = 2;
      bytes = seven;
      buffer = replicate 50 255;
      place = 1;
      tally = 5 ∷ 6 ∷ 7 ∷ [];
      left = record {
        number = 0;
        rows = 2;
        buffer = 255 ∷ row 2 0 ++ row 42 1 ++ (255 ∷ []);
        tally = 6 ∷ 6 ∷ 9 ∷ [];
        states = moved 2 ++ moved 42 ++ (99 ∷ []);
      };
    }
    -- three books and eight, each with a row
    ∷ taking 3
    ∷ taking 8
    ∷ []

-- what fresh states leave of words that are all 9: no book and nine, one word too few for two, two with a word behind them, eight
abbrev pub fresh_samples : List (ℕ × (ℕ × SetFresh))
fresh_samples =
    (0, (4000, record { number = 14; states = replicate 4000 9 })) ∷ (9, (40000, record { number = 14; states = replicate 40000 9 }))
    ∷ (2, (7429, record { number = 9; states = replicate 7429 9 })) ∷ (3, (11144, record { number = 9; states = replicate 11144 9 }))
    ∷ (3, (11146, record { number = 0; states = idle 0 ++ idle 0 ++ idle 0 ++ (9 ∷ []) })) ∷ (2, (7431, record { number = 0; states = idle 0 ++ idle 0 ++ (9 ∷ []) }))
    ∷ (8, (29720, record { number = 0; states = gather (λ s. s) (replicate 8 (idle 0)) })) ∷ []
