-- A claim by a test: where it is true, and where it is not. For both theorems that two results are one.
use mathlib.Core.Path.{◌≡◌, refl}
use mathlib.Core.Bool.{Bool, true, false}

pub whether : {P : Type 0} (b : Bool) → (b ≡ true → P) → (b ≡ false → P) → P
whether true f g = f refl
whether false f g = g refl
