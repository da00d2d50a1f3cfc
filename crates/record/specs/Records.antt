-- Document 01: "Event record, 20 bytes, no header: byte 0 kind (1 to 255); byte 1 argument count (0 to 4); bytes 2 and 3 zero;
-- four unsigned 32-bit little-endian arguments, zero beyond the count." And how the code holds an event.
use Rattle.std.specs.Prelude.{Bool, cond, ◌&&◌, List, map, ℕ, ◌+◌, ◌*◌, eqb, leb, length, get_or, take, drop, Option, Some, None}
use Rattle.laws.specs.Lists.{all, numbers}
use Rattle.laws.specs.Parts.{pad}
use Rattle.meaning.specs.Events as Events
use Rattle.meaning.specs.Limits.{argument_limit}
use Rattle.record.specs.declared.Event.{Event}

-- "Event record, 20 bytes"
abbrev pub record_size : ℕ
record_size = 20

-- four bytes from place k on, little-endian
unfoldable pub word_at : List ℕ → ℕ → ℕ
word_at s k = get_or s k 0 + get_or s (k + 1) 0 * 256 + get_or s (k + 2) 0 * 65536 + get_or s (k + 3) 0 * 16777216

-- the four argument words, from byte 4 on
unfoldable pub arguments_in : List ℕ → List ℕ
arguments_in s = map (λ i. word_at s (4 + 4 * i)) (numbers 0 argument_limit)

-- a record in form; a byte is at most 255, so a kind from 1 on is in range
unfoldable pub is_record : List ℕ → Bool
is_record s =
    eqb (length s) record_size
    && leb 1 (get_or s 0 0) && leb (get_or s 1 0) argument_limit && eqb (get_or s 2 0) 0 && eqb (get_or s 3 0) 0
    && all (eqb 0) (drop (get_or s 1 0) (arguments_in s))

-- the event that it holds
unfoldable pub event_in : List ℕ → Events.Event
event_in s = record { kind = get_or s 0 0; args = take (get_or s 1 0) (arguments_in s) }

-- an event as the code holds it, and back
unfoldable pub event_of : Events.Event → Event
event_of e = record { kind = e.kind; count = length e.args; args = pad argument_limit 0 e.args }

unfoldable pub view_event : Event → Events.Event
view_event e = record { kind = e.kind; args = take e.count e.args }

-- what the bytes of a record hold: none where they are out of form
unfoldable pub decoded : List ℕ → Option Event
decoded s = cond (is_record s) (Some (event_of (event_in s))) None
