use Rattle.std.proofs.Common.{◌≡◌, ◌++◌, drop, map}
use Rattle.std.specs.List.{AllByRecursion}
use Rattle.design_text.specs.DesignTexts.{design_of}
use Rattle.followed_measures.specs.Told.{IsNetIn, told_names}
use Rattle.followed_measures.specs.ToldViews.{net_view}
use Rattle.followed_measures.proofs.told_edit.told_nets.Given as goal

abbrev pub invariant-loop-name : goal.invariant-loop-name
invariant-loop-name g l = record {
  told : AllByRecursion (IsNetIn l.library (design_of l.text)) (map net_view l.told.items);
  named : told_names (map net_view l.told.items) ++ drop l.name-index l.names ≡ l.names;
}
