-- What each event does to the work on a view, word by word of the voter.
pub mod Leaders
pub mod Windows
pub mod Wakings
pub mod Puts
pub mod Requests
pub mod Timeouts
pub mod Scans
pub mod NextView
pub mod WithoutMoment
pub mod Votes
pub mod Replays
pub mod SetUp
pub mod Verdicts
pub mod Certificates
pub mod CertificateSaid
pub mod Elections
pub mod PassedCertificates
