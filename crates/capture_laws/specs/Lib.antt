pub mod Entries
pub mod Explained
pub mod Laws
