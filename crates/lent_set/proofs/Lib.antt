-- Laws for the functions of this crate: one book of a set over its two blocks (Own), what a set answers (Answer), fresh states for a set (Fresh), the turn of
-- the loop in which the books take an event (Taken, Turn), what an event leaves (Event).
pub mod Own
pub mod Answer
pub mod Fresh
pub mod Taken
pub mod Turn
pub mod Event
