-- What the event call gives: Answers (document 01's number of each answer), Calls (one event call, decided whole), Checks (its
-- five checks in words), Runs (lists of
-- calls, and what demands 2 and 3 say of them), Demands (all that is promised of an accepted text, in one record), Witness (two runs to
-- which demand 3 applies).
pub mod Answers
pub mod Calls
pub mod Checks
pub mod Runs
pub mod Demands
pub mod Witness
