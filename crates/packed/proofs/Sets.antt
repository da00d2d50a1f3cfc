-- What the crates above know of lent words: 128 disjuncts of four entries with at most six exclusions each, and a count with
-- the words as a set.
use mathlib.Core.Path.{◌≡◌, refl, ap₂}
use mathlib.Core.Bool.{true, ◌&&◌}
use mathlib.Core.List.{List, []}
use Prim.Native.Nat.{ℕ, ◌+◌, ◌*◌, ◌<◌}
use Rattle.std.proofs.Common.{Option, Some, None}
use lib.Dec.{leb}
use lib.ListN.{length, take, get_or}
use borrow.Author.Tests.{le-leb}
use Rattle.laws.specs.Sets.{full, grown}
use Rattle.meaning.specs.Labels.{Disjunct, exclusions}
use Rattle.meaning.specs.Room.{few_exclusions}
use Rattle.packed.specs.Sets.{entry_at, disjuncts_in, grown_in}
use Rattle.packed.proofs.Words.{disjuncts_at_law, entry_few}
pub use Rattle.packed.proofs.Words.{in_length}

pub few_in : (w : List ℕ) (i : ℕ) → i < 128 → few_exclusions (get_or (disjuncts_in w) i []) ≡ true
few_in w i h =
    let few : (at : ℕ) → leb (length (exclusions (entry_at w at))) 6 ≡ true = λ at. le-leb _ 6 (entry_few w at) in
    rw (disjuncts_at_law w i h) (ap₂ ◌&&◌ (few (i * 28)) (ap₂ ◌&&◌ (few (i * 28 + 7)) (ap₂ ◌&&◌ (few (i * 28 + 14)) (ap₂ ◌&&◌ (few (i * 28 + 21)) refl))))

pub wide_in : (w : List ℕ) (i : ℕ) → i < 128 → length (get_or (disjuncts_in w) i []) ≡ 4
wide_in w i h = rw (disjuncts_at_law w i h)

-- a count with the words, by what they say
pub grown_in_law : (n : ℕ) (w : List ℕ) (l : List Disjunct) → grown_in (Some n) w ≡ grown l → take n (disjuncts_in w) ≡ l
grown_in_law n w l e = cc

pub full_in : (r : Option ℕ) (w : List ℕ) → grown_in r w ≡ full → r ≡ None
full_in None w e = refl
full_in (Some n) w e = cc
