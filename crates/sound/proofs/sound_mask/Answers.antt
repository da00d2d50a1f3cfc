-- `sound::sound_mask` meets its contract: the shifted bound, then the lowest bit.
use Rattle.sound.proofs.Parts.{mask_below}
use Rattle.sound.proofs.sound_mask.Goals as goal

pub returns-then-m-n : goal.returns-then-m-n
returns-then-m-n c = let a = c.args in mask_below a.n a.m c.requires c.if-m-n.true
