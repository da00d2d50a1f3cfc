-- Laws for the functions of this crate: words read (Reading) and written (Writing).
pub mod Reading
pub mod Writing
