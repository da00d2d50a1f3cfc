-- The theorems of the three demands, over the definitions that the contracts cite: Listed, Answered, Crossed; all together for an
-- accepted text: Demands; for any book and state: Checks. On the way to them: States and Bridge (structs against plain states), Course
-- (runs against plain runs), Tails (bytes of rows). Witness has two runs to which Crossed applies;
-- Refusals has answer 9 and the order of the checks, computed; Sound has soundness in words, RunWords runs, rows and pairings.
pub mod States
pub mod Bridge
pub mod Course
pub mod Listed
pub mod Answered
pub mod Checks
pub mod Tails
pub mod Crossed
pub mod Demands
pub mod Witness
pub mod Refusals
pub mod Sound
pub mod RunWords
