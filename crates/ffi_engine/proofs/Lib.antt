pub mod Refused
pub mod Given
