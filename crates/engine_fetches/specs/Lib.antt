pub mod Fetches
pub mod Requests
pub mod OutstandingFetches
pub mod Repairs
