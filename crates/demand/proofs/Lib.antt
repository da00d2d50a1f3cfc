-- Laws of the constraint of the code: what it says.
pub mod Views
