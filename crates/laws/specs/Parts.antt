-- A part of a list written over, and a list padded to a fixed length.
use Rattle.std.specs.Prelude.{List, ◌++◌, ℕ, ◌-◌, length, take, drop, replicate}

module _ {A : Type 0} where
  -- l with b over its beginning
  unfoldable pub front : (b l : List A) → List A
  front b l = b ++ drop (length b) l

  -- l with b over what stands from p on
  unfoldable pub splice : (p : ℕ) (b l : List A) → List A
  splice p b l = take p l ++ front b (drop p l)

  -- l, then as many d as make n elements
  unfoldable pub pad : (n : ℕ) (d : A) (l : List A) → List A
  pad n d l = l ++ replicate (n - length l) d
