-- `handed::event_told` meets its contract: the table of answers, case by case.
use Rattle.promises.proofs.EventResults.{event_told}
use Rattle.handed.proofs.event_told.Goals as goal

pub returns : goal.returns
returns c = rw (c.number_of.ensures, c.place_of.ensures) (event_told _)
