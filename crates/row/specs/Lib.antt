-- The bytes of a row.
pub mod RowBytes
