-- Laws for the proofs of the readers of lines. What single functions find: the names of a ready table (Known), the words of a line
-- (Gaps). The steps of the readers, as the code takes them: of the arguments of a symbol (Args), of variables (Variables), of
-- symbols and their lines (Symbols), of all lines (Whole). What the readers give stays within a table's limits (Sound).
pub mod Args
pub mod Known
pub mod Gaps
pub mod Variables
pub mod Symbols
pub mod Sound
pub mod Whole
