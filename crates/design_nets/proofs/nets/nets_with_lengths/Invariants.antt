use Rattle.std.proofs.Common.{◌≡◌, ◌++◌, drop, map}
use Rattle.design_rules.specs.Boxes.{scale}
use Rattle.net_entries.specs.NetEntries.{wired_group}
use Rattle.design_nets.specs.NetGroups.{length_of_group, net_of_group}
use Rattle.design_nets.proofs.nets.nets_with_lengths.Given as goal

abbrev pub invariant-loop-place : goal.invariant-loop-place
invariant-loop-place g l = record {
  pin_walk : l.pin_walk.layers ≡ l.wires.library;
  part_walk : l.part_walk.layers ≡ l.wires.library;
  nets :
      l.nets ++ map (λ x. net_of_group l.library l.names (scale l.names) (wired_group l.library l.names (scale l.names) x)) (drop l.place l.groups)
      ≡ map (λ x. net_of_group l.library l.names (scale l.names) (wired_group l.library l.names (scale l.names) x)) l.groups;
  lengths :
      l.lengths.items ++ map (λ x. length_of_group (wired_group l.library l.names (scale l.names) x)) (drop l.place l.groups)
      ≡ map (λ x. length_of_group (wired_group l.library l.names (scale l.names) x)) l.groups;
}
