use Rattle.std.proofs.Common.{◌≡◌, ◌++◌, drop, map}
use Rattle.design_text.specs.DesignTexts.{design_of}
use Rattle.followed_nets.specs.Stars.{names_of}
use Rattle.followed_nets.specs.ToldViews.{star_view}
use Rattle.followed_nets.specs.Touched.{ArePinsBy, star_names}
use Rattle.followed_nets.proofs.touched.told_stars.Given as goal

abbrev pub invariant-loop-star : goal.invariant-loop-star
invariant-loop-star g l = record {
  pins : ArePinsBy l.library (design_of l.text) l.component (map star_view l.told.items);
  named : star_names (map star_view l.told.items) ++ names_of (drop l.star-index l.stars) ≡ names_of l.stars;
}
