-- Samples: texts with their readings, computed from the definitions alone. Grammar: the rules of the grammar of patterns with their trees. The
-- theorems about texts are in the crate parsing.
pub mod Samples
pub mod Grammar
