-- For the proof of the cycle: the readers that call one another (Cycle).
pub mod Cycle
