use Rattle.std.proofs.Common.{◌≡◌, ◌≤◌, ◌+◌, ◌-◌, ◌^◌, ◌++◌, length, min}
use Rattle.std.specs.Prelude.{flat_map}
use Rattle.connection_rules.specs.NetLines.{class_lines}
use Rattle.net_checks.specs.NearWithin.{met_within, near_within}
use Rattle.net_checks.proofs.counted.put_counted_nets.Given as goal

abbrev pub invariant-loop-net : goal.invariant-loop-net
invariant-loop-net g l = record {
  lines : l.lines ++ flat_map class_lines l.left ≡ l.fn.lines ++ flat_map class_lines l.nets;
  tests : l.tests + near_within l.left ≤ near_within l.nets;
  least : min (met_within l.nets) (2 ^ 64 - 1) ≤ l.tests + met_within l.left;
}

abbrev pub decreases-loop-net : goal.decreases-loop-net
decreases-loop-net g l = length l.left
