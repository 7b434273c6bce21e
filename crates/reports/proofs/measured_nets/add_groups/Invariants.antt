use Rattle.design_rules.specs.Boxes.{scale}
use Rattle.measure_rules.specs.GridCells.{columns, rows}
use Rattle.net_entries.specs.NetEntries.{wired_group}
use Rattle.design_nets.specs.NetGroups.{length_of_group, net_of_group}
use Rattle.reports.specs.NetWalks.{IsReady}
use Rattle.reports.proofs.MeasuredSteps.{SoMany}
use Rattle.reports.proofs.measured_nets.add_groups.Given as goal

abbrev pub invariant-loop-place : goal.invariant-loop-place
invariant-loop-place g l = record {
  ready : IsReady l.wires l.walk.pins l.walk.pin_walk.layers l.walk.part_walk.layers;
  so_far :
      SoMany (columns l.names) (rows l.names) (λ x. net_of_group l.library l.names (scale l.names) (wired_group l.library l.names (scale l.names) x))
      (λ x. length_of_group (wired_group l.library l.names (scale l.names) x)) l.groups l.place l.measured.table l.measured.total l.measured.cells;
}
