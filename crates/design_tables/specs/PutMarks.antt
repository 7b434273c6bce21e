-- Marks of a statement that are put under their names.
use Rattle.std.specs.Prelude.{◌≡◌, ℕ, List, map}
use Rattle.design_model.specs.declared.identifier.StmtId.{StmtId}
use Rattle.design_tables.specs.Listings.{Listing, listed, marks_named, with_marks}
use Rattle.design_tables.specs.declared.role.Mark.{Mark}
use Rattle.design_tables.specs.declared.role.Role.{Role}

-- marks with the number of a statement
abbrev pub numbered : StmtId → List (List ℕ × Role) → List (List ℕ × Mark)
numbered id ms = map (λ (m : List ℕ × Role). (m.0, record { role = m.1; id = id })) ms

-- a table has under each name what it had, and behind it the marks of the name
pub record ArePut (id : StmtId) (ms : List (List ℕ × Role)) (old new : List (List ℕ × Listing)) : Type 0 where
  pub under : (n : List ℕ) → listed n new ≡ with_marks (marks_named n (numbered id ms)) (listed n old)
