-- What the call with a lent tally hands back (Words).
pub mod Words
