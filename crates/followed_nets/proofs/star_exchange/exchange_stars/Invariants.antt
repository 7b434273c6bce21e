use Rattle.std.proofs.Common.{ℕ, ◌+◌, ◌≤◌, List, length, map}
use Rattle.def_grammar.specs.Records.{Record}
use Rattle.lef_grammar.specs.Library.{Library}
use Rattle.followed_nets.specs.StarExchanges.{AwaitsStars}
use Rattle.followed_nets.specs.Stars.{names_of}
use Rattle.followed_nets.specs.StarTests.{near_in_nets}
use Rattle.followed_nets.specs.ToldViews.{star_view, told_view}
use Rattle.followed_nets.proofs.StarsLeft.{StarsLeft}
use Rattle.followed_nets.proofs.star_exchange.exchange_stars.Given as goal

abbrev pub invariant-loop-star : goal.invariant-loop-star
invariant-loop-star g l = record {
  left : (library : Library) (old new : List Record) (component : List ℕ) → AwaitsStars library old new component l.fn.stars.items (map star_view l.fn.before.items) (map star_view l.fn.after.items)
      → StarsLeft library old new component (names_of l.fn.stars.items) l.stars.items (map star_view l.before.items) (map star_view l.after.items) l.done.items (map told_view l.gone.items) (map told_view l.come.items);
  few : l.tests + near_in_nets l.stars.items ≤ near_in_nets l.fn.stars.items + near_in_nets l.done.items;
}

abbrev pub decreases-loop-star : goal.decreases-loop-star
decreases-loop-star g l = length l.stars.items
