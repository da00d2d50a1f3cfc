-- `words::digits_value` meets its contract: the value of the digits passed, carried on.
use Rattle.words.proofs.Digits.{read_none}
use Rattle.words.proofs.digits_value.Goals as goal

pub loop-b-init : goal.loop-b-init
loop-b-init c = read_none c.args.w.now c.requires.1
