use Rattle.std.proofs.Common.{◌≡◌, ◌++◌, drop, map}
use Rattle.followed_measures.specs.Told.{told_names}
use Rattle.followed_measures.specs.ToldViews.{net_view}
use Rattle.followed_measures.proofs.followed.names_in.Given as goal

abbrev pub invariant-loop-net : goal.invariant-loop-net
invariant-loop-net g l = l.names.items ++ told_names (map net_view (drop l.net-index l.nets)) ≡ told_names (map net_view l.nets)
