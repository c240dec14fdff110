-- Laws of the definitions, for the crates above. They are proved: nothing in this directory has to be trusted.
pub mod Specifiers
pub mod TypesChains
pub mod Growing
pub mod Calls
pub mod Numbers
pub mod StoredTables
