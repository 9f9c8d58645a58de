pub mod Growing
pub mod Made
pub mod Server
