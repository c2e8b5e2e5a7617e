pub mod Frames
pub mod Items
pub mod Tested
pub mod FlatVerdicts
