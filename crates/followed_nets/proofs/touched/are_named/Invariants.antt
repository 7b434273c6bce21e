use Rattle.std.proofs.Common.{◌≡◌, map, take}
use Rattle.followed_nets.specs.Stars.{names_of}
use Rattle.followed_nets.specs.ToldViews.{star_view}
use Rattle.followed_nets.proofs.touched.are_named.Given as goal

abbrev pub invariant-loop-place : goal.invariant-loop-place
invariant-loop-place g l = map (λ t. (star_view t).name) (take l.place l.told) ≡ names_of (take l.place l.stars)
