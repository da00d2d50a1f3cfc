-- A turn of the search for the place of an element (Turn), and a part of a list written over (Parts).
mod Turn
pub mod Parts
