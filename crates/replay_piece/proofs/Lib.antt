pub mod DocumentRun
pub mod LineRoom
pub mod OneRecord
pub mod PieceLeft
pub mod PiecesJoined
