-- The laws of the definitions in ../specs, a file for each; sets under a map (Maps); lists and sets that code keeps in arrays (Arrays), the
-- turns of loops over such a set (Turns), arrays that a loop fills (Fills) and lists written over from their front (Fronts);
-- what is known of lent bytes (Slices);
-- the words that public statements use, written out (Words).
pub mod Lists
pub mod Bits
pub mod Order
pub mod Sets
pub mod Parts
pub mod Checks
pub mod Maps
pub mod Arrays
pub mod Turns
pub mod Fills
pub mod Fronts
pub mod Slices
pub mod Words
