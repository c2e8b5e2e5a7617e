pub mod Checksum
pub mod Digests
pub mod MemberIndexes
pub mod Seals
pub mod SealedCertificates
