-- Edits that leave the lines on components.
use Rattle.std.specs.Prelude.{Bool, true, false, List}
use Rattle.def_grammar.specs.Blockages.{BlockageEntry, blockage_kept, blocks}
use Rattle.def_grammar.specs.Records as records
use Rattle.def_grammar.specs.Records.{Record, entry}
use Rattle.entry_rules.specs.Blocked.{is_of_placement}
use Rattle.lef_grammar.specs.Library.{Library}
use Rattle.line_laws.specs.Lines.{SameLines}
use Rattle.staying_laws.specs.PlaceStatements.{is_surrounding}
use Rattle.staying_laws.specs.Staying.{lines_on_places}

-- an entry of BLOCKAGES that blocks placement
abbrev pub is_placement_blockage : BlockageEntry → Bool
is_placement_blockage (blocks b) = is_of_placement b.kind
is_placement_blockage (blockage_kept tokens) = false

-- a statement that lines on components hang on: a component, a blockage of PLACEMENT, or of what stands round components
abbrev pub is_of_places : Record → Bool
is_of_places (entry (records.component c)) = true
is_of_places (entry (records.blockage b)) = is_placement_blockage b
is_of_places r = is_surrounding r

-- two designs have the same lines on components, by any library
abbrev pub SamePlaces : List Record → List Record → Type 0
SamePlaces old new = (library : Library) → SameLines (lines_on_places library old) (lines_on_places library new)
