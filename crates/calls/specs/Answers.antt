-- "For an answer that is an enum, a definition gives this paper's number and values for each case of the enum."
use Rattle.std.specs.Prelude.{List, [], ◌∷◌, ℕ}
use Rattle.calls.specs.declared.EventAnswer.{EventAnswer}
use Rattle.calls.specs.declared.EventAnswer.TheVariants.{Accepted, Unsound, OutOfForm, TooMany, NoRoom, NoSpace}

-- the number in the table of document 01, "What a call hands back"
abbrev pub number_of : EventAnswer → ℕ
number_of Accepted = 0
number_of Unsound = 9
number_of OutOfForm = 10
number_of TooMany = 11
number_of NoRoom = 12
number_of NoSpace = 13

-- "Events: 9 to 13 in that order", of a read book, which never gets 9
abbrev pub ten_to_thirteen : List EventAnswer
ten_to_thirteen = OutOfForm ∷ TooMany ∷ NoRoom ∷ NoSpace ∷ []

-- the place beside it: answers 9 to 13 carry place 0; an accepted event has none, which counts as 0
abbrev pub place_of : EventAnswer → ℕ
place_of a = 0
