use Rattle.std.proofs.Common.{◌≡◌, ◌++◌, drop, map}
use Rattle.std.specs.List.{AllByRecursion}
use Rattle.design_text.specs.DesignTexts.{design_of}
use Rattle.followed_nets.specs.StarHeads.{IsStarHead, head_names}
use Rattle.followed_nets.specs.ToldViews.{head_view}
use Rattle.followed_nets.proofs.star_heads.heads_named.Given as goal

abbrev pub invariant-loop-name : goal.invariant-loop-name
invariant-loop-name g l = record {
  named : head_names (map head_view l.heads.items) ++ drop l.name-index l.names ≡ l.names;
  heads : AllByRecursion (IsStarHead (design_of l.text)) (map head_view l.heads.items);
}
