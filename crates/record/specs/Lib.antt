-- The event record of document 01: which bytes are one, and which event they hold.
pub mod Records
