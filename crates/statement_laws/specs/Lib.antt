pub mod BlankLaws
pub mod BoundaryLaws
pub mod FormLaws
pub mod JoiningLaws
pub mod ReadingLaws
pub mod StatementLaws
