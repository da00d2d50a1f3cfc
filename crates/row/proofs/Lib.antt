-- The bytes of rows, for the function of this crate, the writer and the event call; Words: every byte of a row written out.
pub mod RowBytes
pub mod Words
