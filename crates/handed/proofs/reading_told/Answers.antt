-- `handed::reading_told` meets its contract: the table of answers, case by case.
use Rattle.promises.proofs.ReadResults.{reading_told}
use Rattle.handed.proofs.reading_told.Goals as goal

pub returns : goal.returns
returns c = rw (c.number_of.ensures, c.place_of.ensures) (reading_told _)
