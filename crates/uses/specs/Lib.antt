pub mod Arriving
pub mod Beginning
pub mod Disturbing
pub mod Leasing
pub mod Muffled
pub mod Reached
pub mod Reported
pub mod Served
