use Rattle.std.proofs.Common.{map, take}
use Rattle.followed_nets.specs.StarHeads.{head_names}
use Rattle.followed_nets.specs.ToldViews.{head_view}
use Rattle.followed_nets.proofs.NoteLemmas.{AreOthers}
use Rattle.followed_nets.proofs.star_heads.names_of_others.Given as goal

abbrev pub invariant-loop-name : goal.invariant-loop-name
invariant-loop-name g l = AreOthers (take l.name-index l.names) (head_names (map head_view l.heads)) l.others.items
