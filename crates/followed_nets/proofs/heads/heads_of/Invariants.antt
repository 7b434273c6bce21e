use Rattle.std.proofs.Common.{map}
use Rattle.std.specs.List.{AllByRecursion}
use Rattle.design_text.specs.DesignTexts.{design_of}
use Rattle.followed_nets.specs.Heads.{IsHead}
use Rattle.followed_nets.specs.ToldViews.{head_view}
use Rattle.followed_nets.proofs.heads.heads_of.Given as goal

abbrev pub invariant-loop-star : goal.invariant-loop-star
invariant-loop-star g l = AllByRecursion (IsHead (design_of l.text)) (map head_view l.heads.items)
