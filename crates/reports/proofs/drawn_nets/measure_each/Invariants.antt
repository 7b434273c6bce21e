use Rattle.std.proofs.Common.{◌≡◌, ℕ, List, drop}
use Rattle.form_meanings.specs.Firsts.{find_named}
use Rattle.reports.specs.DrawnNets.{found_after}
use Rattle.reports.specs.MeasuredNets.{name_of}
use Rattle.reports.proofs.drawn_nets.measure_each.Given as goal

abbrev pub invariant-loop-net_length : goal.invariant-loop-net_length
invariant-loop-net_length g l =
    (name : List ℕ) → found_after l.left (drop l.net_length-index l.lengths) name (find_named name_of l.table name) ≡ found_after l.nets l.lengths name (find_named name_of l.initial.table name)
