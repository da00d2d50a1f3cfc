-- The symbol table of the code against the plain one of the crate form.
pub mod Tables
