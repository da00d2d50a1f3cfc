-- Ranks: the numbers of faults, in their order. Samples: texts with faults by their rules, and small laws of the definitions. The theorem over
-- them, `refused`, is in the crate least.
pub mod Ranks
pub mod Samples
