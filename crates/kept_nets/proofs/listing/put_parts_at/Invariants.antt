use Rattle.std.proofs.Common.{◌≡◌, ◌<◌, drop, length, map}
use Rattle.net_lists.specs.Building.{with_parts}
use Rattle.class_laws.specs.OneMore.{parts_at}
use Rattle.kept_nets.specs.Parts.{part_view}
use Rattle.kept_nets.proofs.listing.put_parts_at.Given as goal

abbrev pub invariant-loop-place : goal.invariant-loop-place
invariant-loop-place g l = record {
  left : with_parts (parts_at (map part_view l.parts) (drop l.place-index l.places)) l.nets ≡ with_parts (parts_at (map part_view l.parts) l.places) l.fn.nets;
  net : 0 < length l.nets;
}
