-- `items::begins_item` meets its contract: a letter or an opening parenthesis, test by test.
use Rattle.text.proofs.Runs.{at_none}
use Rattle.items.proofs.begins_item.Goals as goal

pub returns-in-None : goal.returns-in-None
returns-in-None c = rw (← c.spaces_end-q.ensures, at_none _ _ c.peek.ensures c.in-None.is)
