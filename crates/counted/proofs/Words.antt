-- What the call with a lent tally hands back is what the other hands back, but the tally.
use mathlib.Core.Path.{◌≡◌, refl}
use Rattle.calls.specs.declared.Taken.{Taken}
use Rattle.counted.specs.Given.{given_of}

pub given_words : (t : Taken) → given_of t ≡ record { answer = t.answer; rows = t.rows; book = t.book; state = t.state }
given_words t = refl
