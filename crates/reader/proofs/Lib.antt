-- Laws of the reader: Found (the table that the lines leave is ready for the pattern) and Names (the names of a read book).
pub mod Found
pub mod Names
