use Rattle.std.proofs.Common.{◌≡◌, ◌++◌, length, map}
use Rattle.net_lists.specs.NetViews.{net_view}
use Rattle.net_laws.specs.StarNets.{pins_in}
use Rattle.kept_nets.specs.Parts.{part_view}
use Rattle.kept_nets.proofs.part.pins_of.Given as goal

abbrev pub invariant-loop-part : goal.invariant-loop-part
invariant-loop-part g l = map part_view l.pins.items ++ pins_in l.left ≡ pins_in (net_view l.net).parts

abbrev pub decreases-loop-part : goal.decreases-loop-part
decreases-loop-part g l = length l.left
