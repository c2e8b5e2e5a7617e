pub mod Inputs
pub mod Outputs
pub mod EngineStarts
pub mod EngineHandles
pub mod EngineViews
