pub mod Bytes
pub mod Causes
pub mod Checksum
pub mod Xorshift
