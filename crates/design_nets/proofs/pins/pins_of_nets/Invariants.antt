use Rattle.std.proofs.Common.{◌≡◌, ◌++◌, drop, map}
use Rattle.design_rules.specs.Boxes.{scale}
use Rattle.net_entries.specs.NetEntries.{wired_group}
use Rattle.design_nets.specs.NetGroups.{net_of_group}
use Rattle.design_nets.specs.PinsAlone.{pins_alone}
use Rattle.design_nets.proofs.pins.pins_of_nets.Given as goal

abbrev pub invariant-loop-place : goal.invariant-loop-place
invariant-loop-place g l = record {
  walk : l.walk.layers ≡ l.library;
  nets :
      l.nets ++ map (λ x. pins_alone (net_of_group l.library l.names (scale l.names) (wired_group l.library l.names (scale l.names) x))) (drop l.place l.groups)
      ≡ map (λ x. pins_alone (net_of_group l.library l.names (scale l.names) (wired_group l.library l.names (scale l.names) x))) l.groups;
}
