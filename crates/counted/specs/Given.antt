-- All that an event call hands back but the tally, which is lent.
use Rattle.calls.specs.declared.Taken.{Taken}
use Rattle.counted.specs.declared.Given.{Given}

abbrev pub given_of : Taken → Given
given_of t = record { answer = t.answer; rows = t.rows; book = t.book; state = t.state }
