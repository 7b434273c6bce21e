use Rattle.std.proofs.Common.{◌≡◌, ◌++◌, drop, map}
use Rattle.design_tables.specs.TableViews.{numbered_view}
use Rattle.statement_boxes.specs.Boxes.{box_view}
use Rattle.followed_places.specs.Places.{components_under, place_under}
use Rattle.followed_places.proofs.components.places_of.Given as goal

abbrev pub invariant-loop-numbered : goal.invariant-loop-numbered
invariant-loop-numbered g l = record {
  macros : l.macros ≡ record { library = l.library; scale = l.scale };
  so_far : map box_view l.places.items ++ map place_under (components_under l.library l.scale (map numbered_view (drop l.numbered-index l.statements))) ≡ map place_under (components_under l.library l.scale (map numbered_view l.statements));
}
