pub mod Digests
pub mod Plain
pub mod Decoded
pub mod Refusals
pub mod Artifacts
pub mod Frames
pub mod Texts
