-- What is known of statements that were told one after the other.
use Rattle.std.specs.Prelude.{◌≡◌, ℕ, Bool, false, List}
use Rattle.design_model.specs.declared.identifier.StmtId.{StmtId}
use Rattle.def_grammar.specs.Records.{Record}
use Rattle.design_tables.specs.Listings.{AreTablesOf, Listing}
use Rattle.design_tables.specs.Prepared.{HaveKeysOnce}

-- the tables are theirs, and unless one came again, they have once what a text has once
abbrev pub WereTold : List (List ℕ × Listing) → Bool → List (StmtId × Record) → Type 0
WereTold names repeated xs = AreTablesOf xs names × (repeated ≡ false → HaveKeysOnce xs)
