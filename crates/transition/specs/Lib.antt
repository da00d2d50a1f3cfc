-- What the pure step of an event hands on to the event call.
pub mod Moves
