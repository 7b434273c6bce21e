use Rattle.std.proofs.Common.{◌≡◌, ◌+◌, ◌<◌, ◌^◌, drop, length, map}
use Rattle.std.specs.List.{filter_map, sum_by}
use Rattle.connection_rules.specs.NetParts.{drawn_parts, wired_of}
use Rattle.design_rules.specs.Boxes.{scale}
use Rattle.measure_rules.specs.Lengths.{wired_length}
use Rattle.net_lists.specs.Building.{with_parts}
use Rattle.net_entries.specs.NetEntries.{entry_lent}
use Rattle.drawn_parts.specs.DrawnLengths.{capped}
use Rattle.drawn_parts.proofs.entries.put_drawn.Given as goal

abbrev pub invariant-loop-lent : goal.invariant-loop-lent
invariant-loop-lent g l = record {
  net : 0 < length l.nets;
  same : l.walk.layers ≡ l.initial.walk.layers;
  so_far :
      with_parts (drawn_parts l.initial.walk.layers.layers (filter_map (wired_of l.wires.library l.wires.design (scale l.wires.design)) (map entry_lent (drop l.lent-index l.entries)))) l.nets
      ≡ with_parts (drawn_parts l.initial.walk.layers.layers (filter_map (wired_of l.wires.library l.wires.design (scale l.wires.design)) (map entry_lent l.entries))) l.initial.nets;
  below : l.length < 2 ^ 64;
  length :
      capped (l.length + sum_by wired_length (filter_map (wired_of l.wires.library l.wires.design (scale l.wires.design)) (map entry_lent (drop l.lent-index l.entries))))
      ≡ capped (sum_by wired_length (filter_map (wired_of l.wires.library l.wires.design (scale l.wires.design)) (map entry_lent l.entries)));
}
