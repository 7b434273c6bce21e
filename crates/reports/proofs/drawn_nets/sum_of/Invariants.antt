use Rattle.std.proofs.Common.{◌≡◌, sum, take}
use Rattle.drawn_parts.specs.DrawnLengths.{capped}
use Rattle.reports.proofs.drawn_nets.sum_of.Given as goal

abbrev pub invariant-loop-net_length : goal.invariant-loop-net_length
invariant-loop-net_length l = l.total ≡ capped (sum (take l.net_length-index l.lengths))
