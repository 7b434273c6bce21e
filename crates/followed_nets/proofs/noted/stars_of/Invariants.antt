use Rattle.std.proofs.Common.{◌≡◌, ◌++◌, drop}
use Rattle.std.specs.List.{AllByRecursion}
use Rattle.lef_grammar.specs.Library.{Library}
use Rattle.connection_rules.specs.NetParts.{all_nets}
use Rattle.design_rules.specs.Boxes.{scale}
use Rattle.design_text.specs.DesignTexts.{design_of}
use Rattle.followed_nets.specs.Stars.{IsStar, names_of}
use Rattle.followed_nets.proofs.noted.stars_of.Given as goal

abbrev pub invariant-loop-name : goal.invariant-loop-name
invariant-loop-name g l = record {
  named : names_of l.stars.items ++ drop l.name-index l.names ≡ l.names;
  stars : (library : Library) → l.nets ≡ all_nets library (design_of l.text) (scale (design_of l.text)) → AllByRecursion (IsStar library (design_of l.text)) l.stars.items;
}
