use Rattle.std.proofs.Common.{◌≡◌, ◌≤◌, ◌++◌, drop, map}
use Rattle.net_touches.specs.Barriers.{barrier_view}
use Rattle.design_text.specs.DesignTexts.{design_of}
use Rattle.followed_nets.specs.Exchanging.{AreToldIn, name_of}
use Rattle.followed_nets.specs.Tests.{near_own}
use Rattle.followed_nets.specs.ToldViews.{tests_of, told_view}
use Rattle.followed_nets.proofs.touched.told_nets.Given as goal

abbrev pub invariant-loop-name : goal.invariant-loop-name
invariant-loop-name g l = record {
  told : AreToldIn l.library (map barrier_view l.bars) (design_of l.text) (map told_view l.told.items);
  named : map name_of (map told_view l.told.items) ++ drop l.name-index l.names ≡ l.names;
  few : tests_of l.told.items ≤ near_own (map told_view l.told.items);
}
