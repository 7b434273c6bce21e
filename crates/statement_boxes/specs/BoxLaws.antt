-- What is near.
use Rattle.std.specs.Prelude.{IsTrue}
use Rattle.design_model.specs.Views.{rectangle_of}
use Rattle.design_model.specs.declared.geometry.Rect.{Rect}
use Rattle.shape_rules.specs.Meeting.{meets}
use Rattle.statement_boxes.specs.declared.statement_box.StatementBox.{StatementBox}
use Rattle.statement_boxes.specs.Boxes.{box_view, is_near}

-- A box that meets a rectangle is near it.
abbrev pub MetBoxesAreNear : Type 0
MetBoxesAreNear = (r : Rect) (b : StatementBox) → IsTrue (meets (rectangle_of b.rect) (rectangle_of r)) → IsTrue (is_near (rectangle_of r) (box_view b))
