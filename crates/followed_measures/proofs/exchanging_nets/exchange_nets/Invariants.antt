use Rattle.std.proofs.Common.{List, length, map}
use Rattle.std.specs.List.{AllByRecursion}
use Rattle.def_grammar.specs.Records.{Record}
use Rattle.design_text.specs.DesignTexts.{design_of}
use Rattle.followed_measures.specs.Told.{IsNetIn}
use Rattle.followed_measures.specs.ToldViews.{net_view}
use Rattle.followed_measures.proofs.LoopLemmas.{ToldLeft}
use Rattle.followed_measures.proofs.exchanging_nets.exchange_nets.Given as goal

abbrev pub invariant-loop-net : goal.invariant-loop-net
invariant-loop-net g l = record {
  left : (old : List Record) → AllByRecursion (IsNetIn l.library old) (map net_view l.fn.told.items)
      → ToldLeft l.library old (design_of l.text) (map net_view l.fn.told.items) (map net_view l.left.items) l.fn.reports l.reports;
}

abbrev pub decreases-loop-net : goal.decreases-loop-net
decreases-loop-net g l = length l.left.items
