-- What an edit leaves that cells hold beside nets and a component.
use Rattle.std.specs.Prelude.{◌≡◌, ℕ, false, List, map, Option}
use Rattle.std.specs.List.{list_any}
use Rattle.design_model.specs.declared.identifier.StmtId.{StmtId}
use Rattle.measuring_laws.specs.Measuring.{is_of_cells}
use Rattle.text_pieces.specs.KeptRecords.{record_of}
use Rattle.text_pieces.specs.Tables.{Kept, kept_at}
use Rattle.design_text.specs.Exchanges.{Exchanged}

-- what is kept under these numbers says nothing of it
abbrev pub AreOthers : List (Option Kept) → Option (List ℕ) → List StmtId → Type 0
AreOthers slots but ids = list_any (is_of_cells but) (map (λ id. record_of (kept_at slots id)) ids) ≡ false

-- neither what went out by an exchange nor what came in does
pub record LeavesCells (slots : List (Option Kept)) (but : Option (List ℕ)) (x : Exchanged) : Type 0 where
  pub went : AreOthers slots but x.went
  pub came : AreOthers slots but x.came
