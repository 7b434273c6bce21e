pub mod ClassRows
pub mod NetTexts
pub mod PinRows
pub mod ShortRows
