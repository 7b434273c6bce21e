-- Boxes of statements as contracts see them: the number of a statement, and a rectangle.
use Rattle.std.specs.Prelude.{ℕ, Bool, List, filter, count_by}
use Rattle.design_model.specs.Geometry.{Rectangle}
use Rattle.design_model.specs.Views.{rectangle_of}
use Rattle.design_model.specs.declared.identifier.StmtId.{StmtId}
use Rattle.shape_rules.specs.Meeting.{meets}
use Rattle.shape_index.specs.Near.{are_near}
use Rattle.statement_boxes.specs.declared.statement_box.StatementBox.{StatementBox}

abbrev pub box_view : StatementBox → StmtId × Rectangle
box_view b = (b.id, rectangle_of b.rect)

-- the boxes that share a point with a rectangle
abbrev pub met_by : Rectangle → List (StmtId × Rectangle) → List (StmtId × Rectangle)
met_by r boxes = filter (λ b. meets b.1 r) boxes

-- how many they are
abbrev pub met_count : Rectangle → List (StmtId × Rectangle) → ℕ
met_count r boxes = count_by (λ b. meets b.1 r) boxes

-- a box's tile is one of those that a rectangle meets, or one lower in x or in y
abbrev pub is_near : Rectangle → StmtId × Rectangle → Bool
is_near r b = are_near r b.1

-- how many boxes are near a rectangle
abbrev pub near_count : Rectangle → List (StmtId × Rectangle) → ℕ
near_count r boxes = count_by (is_near r) boxes
