-- The starred roasts of document 01 that are event runs, and two of ours for document 02's change 1: for each a tracematch, the events sent, and
-- what the watch answers to each. Books are written as tracematches. Computed: ../proofs/Anchors.antt.
use Rattle.std.specs.Prelude.{true, false, cond, List, [], ◌∷◌, ℕ}
use Rattle.pattern.specs.Regex.{Regex, lit, cat, star, plus, opt}
use Rattle.meaning.specs.Events.{Parameter, ignored, names, fixed, Symbol, Event, Valuation}
use Rattle.meaning.specs.Meaning.{Tracematch}
use Rattle.meaning.specs.Book.{Book}
use Rattle.meaning.specs.Labels.{Held, held_at, bound, free, new_held}
use Rattle.meaning.specs.Room.{room}
use Rattle.meaning.specs.Rows.{rows}
use Rattle.meaning.specs.Runs.{Call}

-- the answer to an event: 0 with its rows, or 12
pub data Answer : Type 0 where
  accepted : List Valuation → Answer
  no_room : Answer

-- the answers to a list of well-formed events, from what is held
abbrev pub answers : Book → List Held → List Event → List Answer
answers b held [] = []
answers b held (e ∷ es) =
    let more = answers b (new_held b held e) es in
    let same = answers b held es in
    cond (room b held e) (accepted (rows b held e) ∷ more) (no_room ∷ same)

-- a roast: its tracematch, the events sent, the answers that document 01 gives
pub record Case : Type 0 where
  pub tracematch : Tracematch
  pub events : List Event
  pub expected : List Answer

abbrev symbol : ℕ → List Parameter → Symbol
symbol k ps = record { kind = k; parameters = ps }

abbrev event : ℕ → List ℕ → Event
event k xs = record { kind = k; args = xs }

-- variables d = 0 and s = 1
abbrev d : Parameter
d = names 0

abbrev s : Parameter
s = names 1

-- B1: load 1 d s, drop 2 d, clean 3 d
abbrev b1 : Regex → Tracematch
b1 r = record { variables = 2; symbols = symbol 1 (d ∷ s ∷ []) ∷ symbol 2 (d ∷ []) ∷ symbol 3 (d ∷ []) ∷ []; pattern = r }

abbrev load : ℕ → ℕ → Event
load x y = event 1 (x ∷ y ∷ [])

abbrev dropped : ℕ → Event
dropped x = event 2 (x ∷ [])

abbrev clean : ℕ → Event
clean x = event 3 (x ∷ [])

-- B2: open 5 d, fill 1 d s, seal 6 d s, `match open seal`
abbrev b2 : Tracematch
b2 = record { variables = 2; symbols = symbol 5 (d ∷ []) ∷ symbol 1 (d ∷ s ∷ []) ∷ symbol 6 (d ∷ s ∷ []) ∷ []; pattern = cat (lit 0) (lit 2) }

abbrev opened : ℕ → Event
opened x = event 5 (x ∷ [])

abbrev fill : ℕ → ℕ → Event
fill x y = event 1 (x ∷ y ∷ [])

abbrev seal : ℕ → ℕ → Event
seal x y = event 6 (x ∷ y ∷ [])

-- no rows; the row 1 7
abbrev none : Answer
none = accepted []

abbrev row17 : Answer
row17 = accepted ((1 ∷ 7 ∷ []) ∷ [])

-- "Events load(1,7), load(2,8), drop(1), clean(2), drop(2), drop(1) print, whole"
unfoldable pub listing : Case
listing =
    record {
      tracematch = b1 (cat (lit 0) (plus (lit 1)));
      events = load 1 7 ∷ load 2 8 ∷ dropped 1 ∷ clean 2 ∷ dropped 2 ∷ dropped 1 ∷ [];
      expected = none ∷ none ∷ row17 ∷ none ∷ none ∷ row17 ∷ [];
    }

-- "B1, load(1,7), a kind-9 event, drop(1): row 1 7."
unfoldable pub unknown_kind : Case
unknown_kind =
    record {
      tracematch = b1 (cat (lit 0) (plus (lit 1)));
      events = load 1 7 ∷ event 9 [] ∷ dropped 1 ∷ [];
      expected = none ∷ none ∷ row17 ∷ [];
    }

-- "No variables, `sym a 1 _`, `sym b 1 _`, `match a b`: two kind-1 events of one argument give nothing, then the empty
-- valuation."
unfoldable pub overlapping : Case
overlapping =
    record {
      tracematch = record {
        variables = 0;
        symbols = symbol 1 (ignored ∷ []) ∷ symbol 1 (ignored ∷ []) ∷ [];
        pattern = cat (lit 0) (lit 1);
      };
      events = event 1 (4 ∷ []) ∷ event 1 (5 ∷ []) ∷ [];
      expected = none ∷ accepted ([] ∷ []) ∷ [];
    }

-- "Pattern `load* load drop`, load(1,7) twice, drop(1): one row."
unfoldable pub one_row : Case
one_row =
    record {
      tracematch = b1 (cat (star (lit 0)) (cat (lit 0) (lit 1)));
      events = load 1 7 ∷ load 1 7 ∷ dropped 1 ∷ [];
      expected = none ∷ none ∷ row17 ∷ [];
    }

-- "open(1), fill(1,7), seal(1,7), seal(1,8): only the last gives a row, 1 8."
unfoldable pub excluded : Case
excluded =
    record {
      tracematch = b2;
      events = opened 1 ∷ fill 1 7 ∷ seal 1 7 ∷ seal 1 8 ∷ [];
      expected = none ∷ none ∷ none ∷ accepted ((1 ∷ 8 ∷ []) ∷ []) ∷ [];
    }

-- "B2, open(1), fill(1,1) to fill(1,6): 0. Then fill(1,7): 12; seal(1,6): 0, no row; seal(1,9): 12."
unfoldable pub six_excluded : Case
six_excluded =
    record {
      tracematch = b2;
      events =
          opened 1 ∷ fill 1 1 ∷ fill 1 2 ∷ fill 1 3 ∷ fill 1 4 ∷ fill 1 5 ∷ fill 1 6 ∷ fill 1 7 ∷ seal 1 6 ∷ seal 1 9 ∷ [];
      expected = none ∷ none ∷ none ∷ none ∷ none ∷ none ∷ none ∷ no_room ∷ none ∷ no_room ∷ [];
    }

-- "The symbol's constraint is false where that argument differs.": load 1 =3 d, drop 2 =3, clean 3 =3, `match load drop`
unfoldable pub fixed_places : Case
fixed_places =
    record {
      tracematch = record {
        variables = 1;
        symbols = symbol 1 (fixed 3 ∷ d ∷ []) ∷ symbol 2 (fixed 3 ∷ []) ∷ symbol 3 (fixed 3 ∷ []) ∷ [];
        pattern = cat (lit 0) (lit 1);
      };
      events = load 3 7 ∷ load 4 8 ∷ clean 4 ∷ dropped 4 ∷ dropped 3 ∷ load 3 9 ∷ clean 3 ∷ dropped 3 ∷ [];
      expected = none ∷ none ∷ none ∷ none ∷ accepted ((7 ∷ []) ∷ []) ∷ none ∷ none ∷ none ∷ [];
    }

-- B2 with fill 1 d s =1: an event with another argument there excludes nothing
unfoldable pub other_argument : Case
other_argument =
    record {
      tracematch = record {
        variables = 2;
        symbols = symbol 5 (d ∷ []) ∷ symbol 1 (d ∷ s ∷ fixed 1 ∷ []) ∷ symbol 6 (d ∷ s ∷ []) ∷ [];
        pattern = cat (lit 0) (lit 2);
      };
      events = opened 1 ∷ event 1 (1 ∷ 7 ∷ 0 ∷ []) ∷ seal 1 7 ∷ event 1 (1 ∷ 8 ∷ 1 ∷ []) ∷ seal 1 8 ∷ [];
      expected = none ∷ none ∷ row17 ∷ none ∷ none ∷ [];
    }

unfoldable pub table : List Case
unfolding listing unknown_kind overlapping one_row excluded six_excluded fixed_places other_argument
table = listing ∷ unknown_kind ∷ overlapping ∷ one_row ∷ excluded ∷ six_excluded ∷ fixed_places ∷ other_argument ∷ []

-- the calls of such a list of events, an event accepted where there is room
abbrev pub calls_of : Book → List Held → List Event → List Call
calls_of b held [] = []
calls_of b held (e ∷ es) =
    let more = calls_of b (new_held b held e) es in
    let same = calls_of b held es in
    cond (room b held e) (Call.event e true ∷ more) (Call.event e false ∷ same)

-- the row lists among the answers
abbrev pub rows_of : List Answer → List (List Valuation)
rows_of [] = []
rows_of (accepted l ∷ rest) = l ∷ rows_of rest
rows_of (no_room ∷ rest) = rows_of rest

-- a case in which room is judged on the way: the seventh exclusion of d is 12, though `c` (any argument) would end it
unfoldable pub on_the_way : Case
on_the_way =
    record {
      tracematch = record {
        variables = 1;
        symbols = symbol 1 [] ∷ symbol 3 (d ∷ []) ∷ symbol 2 (d ∷ []) ∷ symbol 2 (ignored ∷ []) ∷ [];
        pattern = cat (lit 0) (lit 2);
      };
      events =
          event 1 [] ∷ event 3 (1 ∷ []) ∷ event 3 (2 ∷ []) ∷ event 3 (3 ∷ []) ∷ event 3 (4 ∷ []) ∷ event 3 (5 ∷ [])
          ∷ event 3 (6 ∷ []) ∷ event 2 (7 ∷ []) ∷ [];
      expected = none ∷ none ∷ none ∷ none ∷ none ∷ none ∷ none ∷ no_room ∷ [];
    }

-- the same with a symbol more, c 4 d, and `match a c`: of "some skip set after one of its symbols" each declared symbol is one, whether the pattern
-- names it or not
unfoldable pub unnamed_on_the_way : Case
unnamed_on_the_way =
    record {
      tracematch = record {
        variables = 1;
        symbols = symbol 1 [] ∷ symbol 3 (d ∷ []) ∷ symbol 2 (d ∷ []) ∷ symbol 2 (ignored ∷ []) ∷ symbol 4 (d ∷ []) ∷ [];
        pattern = cat (lit 0) (lit 4);
      };
      events =
          event 1 [] ∷ event 3 (1 ∷ []) ∷ event 3 (2 ∷ []) ∷ event 3 (3 ∷ []) ∷ event 3 (4 ∷ []) ∷ event 3 (5 ∷ [])
          ∷ event 3 (6 ∷ []) ∷ event 2 (7 ∷ []) ∷ [];
      expected = none ∷ none ∷ none ∷ none ∷ none ∷ none ∷ none ∷ no_room ∷ [];
    }

-- what is held after a(), b(1,7), b(1,8) of `vars d s`, a 1, b 2 d s, `match a b`: "not (d=1 and s=7)" is two disjuncts, and
-- they stand "by values …, then by exclusion lists, a list before any that it begins"
abbrev pub partial : Tracematch
partial = record { variables = 2; symbols = symbol 1 [] ∷ symbol 2 (d ∷ s ∷ []) ∷ []; pattern = cat (lit 0) (lit 1) }

abbrev pub partial_calls : List Call
partial_calls = Call.event (event 1 []) true ∷ Call.event (event 2 (1 ∷ 7 ∷ [])) true ∷ Call.event (event 2 (1 ∷ 8 ∷ [])) true ∷ []

abbrev pub partial_held : List Held
partial_held =
    held_at 1 (free [] ∷ free (7 ∷ 8 ∷ []) ∷ []) ∷ held_at 1 (free (1 ∷ []) ∷ free [] ∷ []) ∷ held_at 1 (free (1 ∷ []) ∷ free (7 ∷ []) ∷ []) ∷ []

-- what is held after b(7), a() of `vars d`, a 1, b 2 d, `match b? a b`: "a free variable before any value"
abbrev pub mixed : Tracematch
mixed = record { variables = 1; symbols = symbol 1 [] ∷ symbol 2 (d ∷ []) ∷ []; pattern = cat (opt (lit 1)) (cat (lit 0) (lit 1)) }

abbrev pub mixed_calls : List Call
mixed_calls = Call.event (event 2 (7 ∷ [])) true ∷ Call.event (event 1 []) true ∷ []

abbrev pub mixed_held : List Held
mixed_held = held_at 2 (free [] ∷ []) ∷ held_at 2 (bound 7 ∷ []) ∷ []

-- what is held after a(2), a(1), a(2) of `vars d`, a 1 d, `match a a a`: "by position, then by values"
abbrev pub thrice : Tracematch
thrice = record { variables = 1; symbols = symbol 1 (d ∷ []) ∷ []; pattern = cat (lit 0) (cat (lit 0) (lit 0)) }

abbrev pub thrice_calls : List Call
thrice_calls = Call.event (event 1 (2 ∷ [])) true ∷ Call.event (event 1 (1 ∷ [])) true ∷ Call.event (event 1 (2 ∷ [])) true ∷ []

abbrev pub thrice_held : List Held
thrice_held = held_at 1 (bound 1 ∷ []) ∷ held_at 1 (bound 2 ∷ []) ∷ held_at 2 (bound 2 ∷ []) ∷ []
