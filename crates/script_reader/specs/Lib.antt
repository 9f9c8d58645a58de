pub mod EventReader
pub mod Head
pub mod ReaderState
pub mod Reading
