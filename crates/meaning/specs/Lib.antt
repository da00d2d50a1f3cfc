-- What the watch means, on plain data. Read in this order: Events, Meaning (the declarative meaning), Book, Labels,
-- Room, Rows and Sound (document 01's labels and room), Runs (what the theorems of demands 2 and 3 speak of), Starred; Wide is for the code.
pub mod Limits
pub mod Events
pub mod Meaning
pub mod Book
pub mod Labels
pub mod Room
pub mod Rows
pub mod Sound
pub mod Wide
pub mod Runs
pub mod Starred
