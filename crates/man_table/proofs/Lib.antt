pub mod FillLoops
pub mod Places
pub mod RestingTurns
pub mod Searches
pub mod Tables
pub mod WalkLoop
