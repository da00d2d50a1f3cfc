-- The starred roasts of document 01, with their texts.
pub mod Starred
