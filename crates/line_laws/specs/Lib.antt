pub mod EachLaws
pub mod KindLaws
pub mod Lines
pub mod OneLaws
pub mod PairLaws
pub mod SameLaws
pub mod ScaleLaws
pub mod SortingLaws
