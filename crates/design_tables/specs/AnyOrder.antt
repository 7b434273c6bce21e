-- Statements in whatever order.
use Rattle.std.specs.Prelude.{◌≡◌, ℕ, List, sum_by}
use Rattle.design_model.specs.declared.identifier.StmtId.{StmtId}
use Rattle.def_grammar.specs.Records.{Record}
use Rattle.design_tables.specs.Listings.{AreTablesOf, Listing}
use Rattle.design_tables.specs.Prepared.{AreKeyed}

-- the same statements, whatever their order: what is summed over them is the same
abbrev pub AreSame : List (StmtId × Record) → List (StmtId × Record) → Type 0
AreSame xs ys = (w : StmtId × Record → ℕ) → sum_by w xs ≡ sum_by w ys

-- Their tables are the same, and what a text has once they have once alike.
abbrev pub TablesInAnyOrder : Type 0
TablesInAnyOrder = (xs ys : List (StmtId × Record)) (names : List (List ℕ × Listing)) → AreSame xs ys → AreTablesOf xs names → AreTablesOf ys names

abbrev pub KeysInAnyOrder : Type 0
KeysInAnyOrder = (xs ys : List (StmtId × Record)) → AreSame xs ys → AreKeyed xs → AreKeyed ys
