pub mod PartsJoined
pub mod PayloadWritten
pub mod PublishedParts
pub mod Wires
