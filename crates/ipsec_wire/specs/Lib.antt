pub mod Ah
pub mod AhRepr
pub mod Esp
pub mod EspRepr
