pub mod Numbers
pub mod Laws
pub mod Appended
pub mod ArtifactLaw
pub mod FrameLaw
pub mod PlainLaw
