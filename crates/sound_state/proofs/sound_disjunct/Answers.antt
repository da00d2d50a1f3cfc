-- `sound_state::sound_disjunct` meets its contract: each slot by itself.
use Rattle.std.proofs.Common.{◌∙◌, take, rules, tests}
use Rattle.std.proofs.lemmas.Iterator.{YieldsList-from_slice}
use Rattle.std.proofs.lemmas.Iterator.Search.{all_from_yields_List}
use Rattle.sound.specs.Tests.{slot_sound, disjunct_sound}
use Rattle.sound.proofs.Loops.{all_told}
use Rattle.sound_state.proofs.sound_disjunct.Goals as goal

pub returns : goal.returns
unfolding disjunct_sound
returns c =
    let slots = take c.args.n c.args.d.vars in
    all_from_yields_List slot_sound _ _ c.all.result c.all.ensures.ran (YieldsList-from_slice slots cc) (λ x b q k. search (rules, tests))
    ∙ all_told slot_sound slots
