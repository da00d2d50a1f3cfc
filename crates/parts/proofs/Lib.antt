-- What the definitions compute (Anchors, first, so that a wrong definition is refused there); what a call on a set leaves, by its number (Left);
-- blocks written one behind the other, and one part more (Blocks).
pub mod Anchors
pub mod Left
pub mod Blocks
