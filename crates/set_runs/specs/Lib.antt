-- The checks of a call on a set of books in words (SetChecks); lists of such calls, and what is promised of them (Setting); two lists to which demand 3
-- applies (Witness).
pub mod SetChecks
pub mod Setting
pub mod Witness
