-- The laws of disjuncts in lent words: words read and written (Words), one variable and four (Views), the first n as a set (Sets),
-- and what is held (Held).
pub mod Words
pub mod Views
pub mod Sets
pub mod Held
