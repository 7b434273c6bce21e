use Rattle.std.proofs.Common.{ℕ, List, length, map}
use Rattle.def_grammar.specs.Records.{Record}
use Rattle.lef_grammar.specs.Library.{Library}
use Rattle.followed_nets.specs.StarHeadViews.{pins_view}
use Rattle.followed_measures.specs.Exchanging.{AwaitsStars}
use Rattle.followed_measures.proofs.LoopLemmas.{StarsLeft}
use Rattle.followed_measures.proofs.exchanging.exchange_stars.Given as goal

abbrev pub invariant-loop-went : goal.invariant-loop-went
invariant-loop-went g l = record {
  left : (library : Library) (old new : List Record) (component : List ℕ) → AwaitsStars library old new component (map pins_view l.fn.before.items) (map pins_view l.fn.after.items) l.fn.reports
      → StarsLeft library old new component (map pins_view l.fn.before.items) (map pins_view l.before.items) (map pins_view l.after.items) l.fn.reports l.reports;
}

abbrev pub decreases-loop-went : goal.decreases-loop-went
decreases-loop-went g l = length l.before.items
