pub mod HostLeaders
pub mod Host
pub mod HostCertificates
