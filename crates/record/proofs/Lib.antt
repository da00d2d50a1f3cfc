-- Laws of records: what a record in form says, the event in it, and how the code holds that (Records), for the functions of this
-- crate and for the event call. Anchors has what the definitions compute.
pub mod Anchors
pub mod Records
