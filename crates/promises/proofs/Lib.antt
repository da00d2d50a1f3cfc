-- The theorems about the promises: the definitions that the contracts cite keep them (ReadResults, EventResults: `read_given`, `place_given`,
-- `name_given`, `tally_given`, `event_given`), they leave one result (`reading_decided`, `place_decided`, `name_decided`, `tally_decided`,
-- `event_decided`), and lists of results keep the demands (Results: `results`; what that says, with its text: Said).
pub mod Whether
pub mod Formats
pub mod ReadResults
pub mod EventResults
pub mod Results
pub mod Said
