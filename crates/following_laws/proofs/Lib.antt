mod DesignLemmas
pub mod FamilyLemmas
