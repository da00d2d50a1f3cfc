-- Answer 9, "unsound book or state": "Sound means: at least one position, every number in its declared range, no empty word,
-- exclusions and disjuncts ascending and distinct, no exclusions at a bound variable, at most 128 disjuncts." The counts and tags
-- of the structs and the places of names are judged here; the rest through the views, by the definitions of the crate meaning. What
-- no count reaches (places not taken, exclusions not counted, the value of a free variable, variables beyond the book's, names beyond
-- the declared ones) is not judged; nor is the number beside an ignored place.
use Rattle.std.specs.Prelude.{Bool, cond, ◌&&◌, ℕ, ◌+◌, leb, take}
use Rattle.laws.specs.Lists.{all}
use Rattle.pattern.specs.Positions.{occurrence_limit}
use Rattle.meaning.specs.Book.{sound_book}
use Rattle.meaning.specs.Room.{exclusion_limit, held_limit}
use Rattle.meaning.specs.Sound.{sound_state}
use Rattle.meaning.specs.Limits.{symbol_limit, parameter_limit}
use Rattle.form.specs.Limits.{text_limit}
use Rattle.table.specs.declared.Symbol.{Symbol}
use Rattle.table.specs.declared.Name.{Name}
use Rattle.table.specs.Tables.{span_of, inside}
use Rattle.slot.specs.declared.Slot.{Slot}
use Rattle.book.specs.declared.Book.{Book}
use Rattle.book.specs.Books.{view_book}
use Rattle.state.specs.declared.State.{State}
use Rattle.state.specs.States.{view_state}

-- a symbol whose counts and tags are in range: at most four places, each ignored (0), a variable (1) or a fixed number (2)
unfoldable pub symbol_counts : Symbol → Bool
symbol_counts y = leb y.count parameter_limit && all (λ p. leb p.tag 2) (take y.count y.parameters)

-- a name whose place is in range: it ends where a text may end, "A book is ASCII text, at most 4,096 bytes."
abbrev pub name_placed : Name → Bool
name_placed x = inside text_limit (span_of x)

-- the counts of a book within its arrays, and the places of the declared names ("variables from 0, then symbols") within a text
unfoldable pub book_counts : Book → Bool
book_counts b =
    leb b.symbols symbol_limit && leb b.positions occurrence_limit && all symbol_counts (take b.symbols b.table)
    && all name_placed (take (b.variables + b.symbols) b.names)

-- "unsound book": not this
unfoldable pub book_sound : Book → Bool
book_sound b = book_counts b && sound_book (view_book b)

-- at most six exclusions, "no exclusions at a bound variable"
unfoldable pub slot_counts : Slot → Bool
slot_counts s = leb s.count (cond s.bound 0 exclusion_limit)

-- the counts of a state within its arrays
unfoldable pub state_counts : (variables : ℕ) → State → Bool
state_counts n s = leb s.count held_limit && all (λ d. all slot_counts (take n d.vars)) (take s.count s.pool)

-- "unsound … state": not this
unfoldable pub state_sound : Book → State → Bool
state_sound b s = state_counts b.variables s && sound_state (view_book b) (view_state b.variables s)
