-- Laws of states: States (for the crates above), Words (a state as it is stored and read back, in words), Pools (what the loops of `load` and
-- `store` keep).
pub mod States
pub mod Words
pub mod Pools
