-- `handed::name` meets its contract: the name and its place keep what is promised.
use Rattle.promises.proofs.ReadResults.{place_given}
use Rattle.handed.proofs.Carried.{name_carried}
use Rattle.handed.proofs.name.Goals as goal

pub returns : goal.returns
returns c = let e = c.name.ensures in record {
  bytes = name_carried _ _ _ e.bytes;
  place = (e.place.0, (_, _, place_given _ _, e.place.1));
}
