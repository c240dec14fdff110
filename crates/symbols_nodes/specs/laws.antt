-- Lemmas about the definitions in this directory's parent, for the crates above. They are proved, so nothing in them has to be trusted.
pub mod Readings
