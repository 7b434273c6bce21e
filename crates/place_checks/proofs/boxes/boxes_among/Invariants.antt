use Rattle.std.proofs.Common.{◌≡◌, ◌++◌, drop, map}
use Rattle.std.specs.List.{filter_map}
use Rattle.design_rules.specs.Boxes.{box_of}
use Rattle.def_reader.specs.StatementViews.{records_view}
use Rattle.place_checks.specs.Views.{boxed_view}
use Rattle.place_checks.proofs.boxes.boxes_among.Given as goal

abbrev pub invariant-loop-statement : goal.invariant-loop-statement
invariant-loop-statement g l = record {
  macros : l.macros ≡ record { library = l.library; scale = l.scale };
  so_far : map boxed_view l.boxes.items ++ filter_map (box_of l.library l.scale) (records_view (drop l.statement-index l.records)) ≡ filter_map (box_of l.library l.scale) (records_view l.records);
}
