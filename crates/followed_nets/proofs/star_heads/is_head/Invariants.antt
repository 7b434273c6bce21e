use Rattle.std.proofs.Common.{◌≡◌, drop, map}
use Rattle.net_laws.specs.NetChanges.{is_one_of}
use Rattle.followed_nets.specs.StarHeads.{head_names}
use Rattle.followed_nets.specs.ToldViews.{head_view}
use Rattle.followed_nets.proofs.star_heads.is_head.Given as goal

abbrev pub invariant-loop-head : goal.invariant-loop-head
invariant-loop-head g l = is_one_of (head_names (map head_view (drop l.head-index l.heads))) l.name ≡ is_one_of (head_names (map head_view l.heads)) l.name
