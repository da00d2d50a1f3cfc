-- What is promised of the very results of the public calls: Formats (records and rows in numbers), ReadResults (`read`, `name`, `name_place`),
-- EventResults (`fresh`, `event`, `count`, and lists of event calls).
pub mod Formats
pub mod ReadResults
pub mod EventResults
