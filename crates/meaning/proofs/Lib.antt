-- What can be said of the definitions by themselves: Anchors has what they compute for the starred roasts and a few cases more, Holds that
-- the matcher's constraint says what `holds` says. The theorems about the meaning are in the crate automaton.
pub mod Anchors
pub mod Holds
