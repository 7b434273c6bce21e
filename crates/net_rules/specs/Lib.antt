pub mod ViaRectangles
pub mod Widths
pub mod WirePieces
