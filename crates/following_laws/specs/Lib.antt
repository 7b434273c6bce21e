pub mod DesignLaws
pub mod FamilyLaws
pub mod Following
