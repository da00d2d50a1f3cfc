-- Any words: the checks and refusals (SetAnyWords), what acceptance leaves (SetAccepted), fresh states (SetFreshWords), a set of one (SetOne). Runs: one
-- book behind
-- a trace (Tracked), blocks and rows (SetBlocks, SetRows), the course of a run (SetCourse), and the theorems (SetListed, SetAnswered, Alone, SetCrossed,
-- SetDemands,
-- Witness). The words of all statements with their text (SetSaid).
pub mod SetAnyWords
pub mod SetOne
pub mod Tracked
pub mod SetBlocks
pub mod SetRows
pub mod SetCourse
pub mod SetListed
pub mod SetAnswered
pub mod Alone
pub mod SetAccepted
pub mod SetFreshWords
pub mod SetCrossed
pub mod SetDemands
pub mod Witness
pub mod SetSaid
