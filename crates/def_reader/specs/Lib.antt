pub mod EntryViews
pub mod FloorViews
pub mod Lent
pub mod PropertyViews
pub mod RecordViews
pub mod SeenViews
pub mod StatementViews
pub mod TextViews
