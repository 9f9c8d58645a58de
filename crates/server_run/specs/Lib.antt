pub mod Answering
pub mod Asking
pub mod Captured
pub mod Examples
pub mod Rows
pub mod ServeError
pub mod Served
pub mod Serving
