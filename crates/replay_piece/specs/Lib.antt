pub mod Document
pub mod Moves
pub mod Piece
pub mod Pieces
pub mod Types
pub mod Whole
