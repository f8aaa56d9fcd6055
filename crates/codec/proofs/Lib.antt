pub mod Commands
pub mod CutParts
pub mod Entries
pub mod ReadCases
pub mod Refuses
pub mod RoundTrips
pub mod Steps
pub mod WrittenBytes
