-- The theorem `refused` (Refused): the reader answers the least fault of a text; faults and rules are defined in the crate fault. For
-- readers of the contract of `read`, and for the crate examples. Judged: what a word, a token, a space and what is missing are answered, sentence
-- by sentence; Reasons: nothing else is; Right: what has no fault; Located: the words that these use of places. Stands (tokens that begin a
-- pattern), Spots (places), Sites (which faults can stand at a place), PatternSites (on the pattern's line), LeastFaults (the least at a word, a token
-- and the LF). The lines before the pattern: HeaderPrefix (the prefixes that the reader accepts, and where it may stop), Gaps and HeaderCourse (its
-- course reads them), WordLaws and WordFaults (what may be wrong with a word), HeaderFacts (what is known where a prefix ends), HeaderFaults. The
-- pattern, likewise: PatternPrefix, PatternCourse, TokenPlaces (tokens by their places), PatternFacts, PatternFaults.
pub mod Stands
pub mod Spots
pub mod Sites
pub mod HeaderPrefix
pub mod Gaps
pub mod HeaderCourse
pub mod WordLaws
pub mod WordFaults
pub mod PatternSites
pub mod LeastFaults
pub mod HeaderFacts
pub mod HeaderFaults
pub mod PatternPrefix
pub mod PatternCourse
pub mod TokenPlaces
pub mod PatternFacts
pub mod PatternFaults
pub mod Refused
pub mod Judged
pub mod Reasons
pub mod Right
pub mod Located
