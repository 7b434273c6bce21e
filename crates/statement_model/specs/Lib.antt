pub mod Boundaries
pub mod Cuts
pub mod Folds
pub mod Form
pub mod Grammar
pub mod Reading
pub mod Tokens
