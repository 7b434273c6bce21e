-- Boxes as shapes of one layer.
use Rattle.std.specs.Prelude.{◌≡◌, not, ◌==◌, List, count_by}
use Rattle.design_model.specs.Geometry.{Rectangle}
use Rattle.design_model.specs.Views.{rectangle_of}
use Rattle.design_model.specs.declared.identifier.ShapeId.{ShapeId}
use Rattle.design_model.specs.declared.identifier.StmtId.{StmtId}
use Rattle.shape_index.specs.declared.shape.Shape.{Shape}
use Rattle.statement_boxes.specs.declared.statement_box.StatementBox.{StatementBox}

-- the shape of a box: its net is the statement's number
abbrev pub shape_of : StatementBox → Shape
shape_of b = record { layer = record { 0 = 0 }; rect = b.rect; net = b.id.0 }

abbrev pub number_of : Shape → StmtId
number_of s = record { 0 = s.net }

-- the box of an entry's shape
abbrev pub box_of : ShapeId × Shape → StmtId × Rectangle
box_of e = (number_of e.1, rectangle_of e.1.rect)

-- no shape is on another layer
pub record AreOnTheLayer (es : List (ShapeId × Shape)) : Type 0 where
  pub none_elsewhere : count_by (λ e. not (e.1.layer.0 == 0)) es ≡ 0
