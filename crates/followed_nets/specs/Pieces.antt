-- Pieces of nets: whole nets, or some pins of a net, with the lines that go where they go.
use Rattle.std.specs.Prelude.{◌≡◌, ℕ, List, [], ◌∷◌, ◌++◌, flat_map, map}
use Rattle.design_model.specs.Families.{cross_lines, pair_lines}
use Rattle.design_model.specs.Order.{sorted_by_bytes}
use Rattle.connection_rules.specs.NetLines.{Barrier, NetShape, class_lines, routeblock_of, shapes_of_net, short_of}
use Rattle.connection_rules.specs.NetParts.{Net}
use Rattle.line_laws.specs.Lines.{SameLines, SameThings}
use Rattle.named_shapes.specs.Named.{by_name, named}
use Rattle.followed_nets.specs.Told.{Told}

-- its shapes, and the lines on how its net hangs together
pub record Piece : Type 0 where
  pub shapes : List NetShape
  pub lines : List (List ℕ)

abbrev pub piece_of : Net → Piece
piece_of n = record { shapes = shapes_of_net n; lines = class_lines n }

abbrev pub shapes_of : List Piece → List NetShape
shapes_of pieces = flat_map (λ (p : Piece). p.shapes) pieces

abbrev pub classes_of : List Piece → List (List ℕ)
classes_of pieces = flat_map (λ (p : Piece). p.lines) pieces

-- the lines on pieces, by the names of layers
abbrev pub lines_on : (ℕ → List ℕ) → List Piece → List Barrier → List (List ℕ)
lines_on name_of pieces bars = pair_lines (short_of name_of) (shapes_of pieces) ++ (cross_lines (routeblock_of name_of) (shapes_of pieces) bars ++ classes_of pieces)

-- what is told is a piece, where these rectangles block routing
pub record IsPiece (name_of : ℕ → List ℕ) (bars : List Barrier) (p : Piece) (t : Told) : Type 0 where
  pub lines_are : SameLines t.lines (lines_on name_of (p ∷ []) bars)
  pub shapes_are : map (named t.name) t.shapes ≡ map by_name p.shapes

abbrev pub ArePieces : (ℕ → List ℕ) → List Barrier → List Piece → List Told → Type 0
ArePieces name_of bars [] [] = Unit {0}
ArePieces name_of bars [] (t ∷ ts) = ⊥
ArePieces name_of bars (p ∷ ps) [] = ⊥
ArePieces name_of bars (p ∷ ps) (t ∷ ts) = IsPiece name_of bars p t × ArePieces name_of bars ps ts

-- shapes that are kept are those of pieces, and lines that are kept are those on these, in the order of their bytes
pub record AreOnPieces (name_of : ℕ → List ℕ) (bars : List Barrier) (pieces : List Piece) (shapes : List NetShape) (lines : List (List ℕ)) : Type 0 where
  pub shapes_are : SameThings shapes (map by_name (shapes_of pieces))
  pub lines_are : lines ≡ sorted_by_bytes (lines_on name_of pieces bars)

-- some shapes are among others, each as often
pub record AreAmong (some all : List NetShape) : Type 0 where
  pub others : List NetShape
  pub all_are : SameThings all (others ++ some)
