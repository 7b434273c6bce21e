use Rattle.std.proofs.Common.{◌≡◌, ◌++◌, List, length, map}
use Rattle.lef_grammar.specs.Measures.{Shape}
use Rattle.net_lists.specs.PartCuts.{shape_view}
use Rattle.followed_nets.proofs.changed_shapes.take_off_ends.Given as goal

abbrev pub invariant-loop-x : goal.invariant-loop-x
invariant-loop-x g l = (ends : List Shape) × (map shape_view l.fn.a.items ≡ map shape_view l.a.items ++ ends) × (map shape_view l.fn.b.items ≡ map shape_view l.b.items ++ ends)

abbrev pub decreases-loop-x : goal.decreases-loop-x
decreases-loop-x g l = length l.a.items
