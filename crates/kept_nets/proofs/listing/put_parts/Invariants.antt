use Rattle.std.proofs.Common.{◌≡◌, ◌<◌, drop, length, map}
use Rattle.net_lists.specs.Building.{with_parts}
use Rattle.kept_nets.specs.Parts.{part_view}
use Rattle.kept_nets.proofs.listing.put_parts.Given as goal

abbrev pub invariant-loop-part : goal.invariant-loop-part
invariant-loop-part g l = record {
  left : with_parts (map part_view (drop l.part-index l.parts)) l.nets ≡ with_parts (map part_view l.parts) l.fn.nets;
  net : 0 < length l.nets;
}
