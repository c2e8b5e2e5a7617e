pub mod HandleContents
pub mod OpenStatuses
