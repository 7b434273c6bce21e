use Rattle.std.proofs.Common.{◌≡◌, map, take}
use Rattle.std.specs.List.{filter_map}
use Rattle.design_rules.specs.Boxes.{box_of}
use Rattle.def_reader.specs.StatementViews.{records_view}
use Rattle.reports.specs.Densities.{HoldsMore, box_shape}
use Rattle.reports.proofs.densities.add_boxes.Given as goal

abbrev pub invariant-loop-statement : goal.invariant-loop-statement
invariant-loop-statement g l = record {
  macros : l.macros ≡ record { library = l.library; scale = l.scale };
  so_far : HoldsMore (map box_shape (filter_map (box_of l.library l.scale) (records_view (take l.statement-index l.records)))) l.initial.densities l.densities;
}
