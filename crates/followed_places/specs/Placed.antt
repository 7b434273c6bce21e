-- Components of the program under the numbers of their statements.
use Rattle.design_model.specs.declared.identifier.StmtId.{StmtId}
use Rattle.design_rules.specs.Boxes.{Boxed}
use Rattle.place_checks.specs.Views.{boxed_view}
use Rattle.followed_places.specs.declared.components.Placed.{Placed}

abbrev pub placed_view : Placed → StmtId × Boxed
placed_view p = (p.id, boxed_view p.component)

abbrev pub component_of : Placed → Boxed
component_of p = boxed_view p.component
