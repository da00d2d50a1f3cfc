-- Every fault of a text by its rule, and the least of them: document 01, "The book" and "Reading". Places (lines, words and tokens of a
-- text by their places), Fault (the relation; Least) and Rules (which number and place a text must get). Nothing here follows the
-- reader's course.
pub mod Places
pub mod Fault
pub mod Rules
