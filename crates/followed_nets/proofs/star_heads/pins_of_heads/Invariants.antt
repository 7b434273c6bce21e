use Rattle.std.proofs.Common.{◌≡◌, ◌++◌, drop, map}
use Rattle.std.specs.List.{AllByRecursion}
use Rattle.design_text.specs.DesignTexts.{design_of}
use Rattle.followed_nets.specs.StarHeads.{ArePinShapes, IsStarHead, head_names, pin_names}
use Rattle.followed_nets.specs.StarHeadViews.{pins_view}
use Rattle.followed_nets.specs.ToldViews.{head_view}
use Rattle.followed_nets.proofs.star_heads.pins_of_heads.Given as goal

abbrev pub invariant-loop-head : goal.invariant-loop-head
invariant-loop-head g l = record {
  left : AllByRecursion (IsStarHead (design_of l.text)) (map head_view (drop l.head-index l.heads));
  shapes : ArePinShapes l.library (design_of l.text) l.component (map pins_view l.told.items);
  named : pin_names (map pins_view l.told.items) ++ head_names (map head_view (drop l.head-index l.heads)) ≡ head_names (map head_view l.heads);
}
