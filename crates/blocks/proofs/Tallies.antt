-- A tally in lent words is read back, and any three words are those of what they say. For the lent calls.
use mathlib.Core.Path.{◌≡◌, refl, sym}
use mathlib.Core.List.{List}
use Prim.Native.Nat.{ℕ}
use lib.ListN.{length}
use Rattle.laws.proofs.Arrays.{by_index}
use Rattle.tally.specs.declared.Tally.{Tally}
use Rattle.blocks.specs.TallyBlock.{tally_in, tally_words}

pub tally_back : (t : Tally) → tally_in (tally_words t) ≡ t
unfolding tally_in tally_words
tally_back t = refl

pub tally_whole : (w : List ℕ) → length w ≡ 3 → tally_words (tally_in w) ≡ w
unfolding tally_in tally_words
tally_whole w h = sym (by_index 0 w 3 h)
