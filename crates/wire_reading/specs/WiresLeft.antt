-- The pieces of the wires that are left of an entry.
use Rattle.std.specs.Prelude.{◌≡◌, ℕ, List, [], ◌++◌, flat_map, ℤ, Option, MatchOption}
use Rattle.std.specs.Option.{option_map}
use Rattle.lefdef_tokens.specs.Views.{word_view}
use Rattle.wire_parts.specs.NetWireViews.{paths_left}
use Rattle.wire_parts.specs.SpecialWireViews.{special_paths_left}
use Rattle.wire_rules.specs.Paths.{PathItem, Piece, WireMakings}
use Rattle.wire_rules.specs.ViaShapes.{NamedShape}
use Rattle.wire_shapes.specs.PiecesLeft.{pieces_left}
use Rattle.wire_shapes.specs.declared.pieces.PathPieces.{PathPieces}
use Rattle.wire_reading.specs.PiecesBy.{special_wire_pieces_by, wire_pieces_by}
use Rattle.wire_reading.specs.declared.made_wires.NetWires.{NetWires}
use Rattle.wire_reading.specs.declared.made_wires.SpecialNetWires.{SpecialNetWires}

abbrev pub net_left : {M : Type 0} → (M → Option (List ℕ) → WireMakings) → NetWires M → List Piece
net_left rules w = flat_map (wire_pieces_by (rules w.maker) (option_map word_view w.rule)) (paths_left w.paths)

abbrev pub special_left : {M : Type 0} → (M → ℤ → WireMakings) → SpecialNetWires M → List Piece
special_left rules w = flat_map (special_wire_pieces_by (rules w.maker)) (special_paths_left w.paths)

-- a call gave the next wire, whose pieces come first of those that were left; or no wire was left
abbrev pub GivesWire : {I R S : Type 0} → (I → List PathItem) → (R → WireMakings) → (S → List NamedShape) → List Piece → Option (PathPieces I R S) → List Piece → Type 0
GivesWire items rules shapes old found new = MatchOption found ((old ≡ []) × (new ≡ [])) (λ p. old ≡ pieces_left items rules shapes p ++ new)
