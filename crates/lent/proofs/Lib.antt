-- Laws for the functions of this crate: what a lent reading and a lent event leave, put together (Left).
pub mod Left
