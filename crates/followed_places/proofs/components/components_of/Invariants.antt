use Rattle.std.proofs.Common.{◌≡◌, ◌++◌, drop, map}
use Rattle.design_tables.specs.TableViews.{numbered_view}
use Rattle.followed_places.specs.Placed.{placed_view}
use Rattle.followed_places.specs.Places.{components_under}
use Rattle.followed_places.proofs.components.components_of.Given as goal

abbrev pub invariant-loop-numbered : goal.invariant-loop-numbered
invariant-loop-numbered g l = record {
  macros : l.macros ≡ record { library = l.library; scale = l.scale };
  so_far : map placed_view l.components.items ++ components_under l.library l.scale (map numbered_view (drop l.numbered-index l.statements)) ≡ components_under l.library l.scale (map numbered_view l.statements);
}
