-- Changes of the text of a design, of its pieces and of its tables together.
use Rattle.std.specs.Prelude.{◌≡◌, ◌<◌, ℕ, List, length, Result, Ok, Err, IsOk}
use Rattle.design_model.specs.declared.TheConstants.{MAX_TEXT}
use Rattle.design_model.specs.declared.fault.Fault as fault
use Rattle.statement_model.specs.Cuts.{Cut, with_cuts}
use Rattle.def_grammar.specs.Records.{read_def}
use Rattle.splicing_laws.specs.KeepingLaws.{AreInOrder}
use Rattle.text_pieces.specs.Changes.{Prepared}
use Rattle.text_pieces.specs.Content as content
use Rattle.text_pieces.specs.Lent.{numbered_records}
use Rattle.text_pieces.specs.Lasting.{Leads}
use Rattle.text_pieces.specs.declared.prepared.PrepareError.{PrepareError}
use Rattle.text_pieces.specs.declared.prepared.PrepareError.TheVariants.{Fault, Memory, Range, TooLong}
use Rattle.design_tables.specs.Listings.{Listing}
use Rattle.design_tables.specs.Prepared as tables
use Rattle.design_text.specs.DesignTexts.{Content}

-- a change of the pieces, and one of the tables
pub record Both : Type 0 where
  pub text : Prepared
  pub names : List (List ℕ × Listing)

-- they lead from the text of a design to another one
pub record LeadsTo (c : Content) (change : Both) (new : List ℕ) : Type 0 where
  pub other : content.Content
  pub leads : Leads c.pieces change.text other
  pub names : tables.IsBetween c.names change.names (numbered_records c.pieces) (numbered_records other)
  pub text : content.text_of other ≡ new
  pub reads : IsOk (read_def new)

-- what preparing cuts of a text says: a change that leads to the text with them made; or that they don't stand in order, or that this
-- text would be too long, or has a fault; refused memory says nothing
abbrev pub PreparesCuts : List ℕ → List Cut → Result Both PrepareError → Content → Type 0
PreparesCuts old cuts (Ok change) now = LeadsTo now change (with_cuts cuts old)
PreparesCuts old cuts (Err Range) now = AreInOrder 0 cuts (length old) → ⊥
PreparesCuts old cuts (Err TooLong) now = AreInOrder 0 cuts (length old) × (MAX_TEXT < length (with_cuts cuts old))
PreparesCuts old cuts (Err Fault) now = (f : fault.Fault) × (read_def (with_cuts cuts old) ≡ Err f)
PreparesCuts old cuts (Err Memory) now = Unit {0}
