pub mod Disturbed
pub mod Disturber
pub mod Examples
pub mod Laws
pub mod Met
