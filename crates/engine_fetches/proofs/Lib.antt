pub mod Earlier
pub mod Once
pub mod Remainders
pub mod OutstandingFetches
pub mod OpenedFetches
pub mod Repairs
