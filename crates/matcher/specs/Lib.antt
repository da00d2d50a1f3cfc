-- What the pure step over lent words asks for, and what it leaves.
pub mod Effects
