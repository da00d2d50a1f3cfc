-- `handed::read` meets its contract: the reading of the text keeps what is promised.
use Rattle.handed.proofs.Carried.{read_carried}
use Rattle.handed.proofs.read.Goals as goal

pub returns : goal.returns
returns c = read_carried _ _ c.read.ensures
