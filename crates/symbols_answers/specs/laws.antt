-- Laws of the definitions, for the crates above. They are proved: nothing in this directory has to be trusted.
pub mod Walks
pub mod FollowedLists
pub mod SeenLists
