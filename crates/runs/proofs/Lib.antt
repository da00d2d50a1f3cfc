-- The laws of runs of any machine (Runs), of what is accepted in a list (Accepted), and of paired traces (Pairs); what the definitions compute
-- (Anchors).
pub mod Anchors
pub mod Runs
pub mod Accepted
pub mod Pairs
