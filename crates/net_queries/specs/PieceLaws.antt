-- What the classes of a net's parts hang on.
use Rattle.std.specs.Prelude.{◌≡◌, ◌+◌, ℕ, List, ◌++◌, length, IsPermutation}
use Rattle.design_model.specs.declared.identifier.ShapeId.{ShapeId}
use Rattle.connection_rules.specs.NetParts.{Part}
use Rattle.connection_rules.specs.PartClasses.{pin_marks, with_pins, without_pins}
use Rattle.line_laws.specs.Lines.{SameThings}
use Rattle.shape_index.specs.declared.shape.Shape.{Shape as Stored}
use Rattle.net_queries.specs.Held.{HoldsParts, shapes_from}

-- of two lists of parts as many classes hold a pin, and as many hold none
pub record HangTogetherAlike (ps qs : List Part) : Type 0 where
  pub classes : with_pins ps ≡ with_pins qs
  pub floating : without_pins ps ≡ without_pins qs

-- The order of shapes within their parts is open,
abbrev pub ShapesInAnyOrder : Type 0
ShapesInAnyOrder = (ps qs : List Part) → pin_marks ps ≡ pin_marks qs → SameThings (shapes_from 0 ps) (shapes_from 0 qs) → HangTogetherAlike ps qs

-- and so is the order of the parts.
abbrev pub PartsInAnyOrder : Type 0
PartsInAnyOrder = (ps qs : List Part) → IsPermutation ps qs → HangTogetherAlike ps qs

-- A set that holds parts one after the other holds those of each run of them.
abbrev pub RunsAreHeld : Type 0
RunsAreHeld = (first : ℕ) (before parts behind : List Part) (entries : List (ShapeId × Stored)) → HoldsParts first (before ++ (parts ++ behind)) entries
    → HoldsParts (first + length before) parts entries
