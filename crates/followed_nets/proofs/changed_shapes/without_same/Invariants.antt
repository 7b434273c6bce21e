use Rattle.std.proofs.Common.{◌++◌, length, map}
use Rattle.followed_nets.specs.Lacking.{LackTheSame}
use Rattle.followed_nets.specs.ToldViews.{told_view}
use Rattle.followed_nets.proofs.changed_shapes.without_same.Given as goal

abbrev pub invariant-loop-out : goal.invariant-loop-out
invariant-loop-out g l =
    LackTheSame (map told_view l.gone.items ++ map told_view l.changed.gone.items) (map told_view l.come.items ++ map told_view l.changed.come.items) (map told_view l.fn.told.gone.items) (map told_view l.fn.told.come.items)

abbrev pub decreases-loop-out : goal.decreases-loop-out
decreases-loop-out g l = length l.gone.items
