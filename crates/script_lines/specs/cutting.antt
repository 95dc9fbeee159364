-- Bytes that come in pieces, cut into lines.
pub mod LineBuffer
pub mod Lines
pub mod Pieces
