-- The theorems about lent calls: what an accepted event leaves can be stored (Accepted), the book of a text is read back (Reading), a lent call is
-- a call by value over what the words say (Seen); the demands for lists of lent calls (Demands); for any words the first check that fails, refusals
-- and layouts (Checks), words out of range (Damage, over Places), and what an accepted event leaves, word by word (Words); the words of these
-- statements with their text (Said, Promised); a few of them computed (Anchors).
pub mod Accepted
pub mod Anchors
pub mod Reading
pub mod Seen
pub mod Demands
pub mod Checks
pub mod Places
pub mod Damage
pub mod Words
pub mod Said
pub mod Promised
