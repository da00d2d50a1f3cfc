-- What the event call with a lent tally hands back.
pub mod Given
