use Rattle.std.proofs.Common.{map, take}
use Rattle.design_tables.specs.TableViews.{numbered_view}
use Rattle.followed_nets.specs.Noted.{said}
use Rattle.followed_nets.specs.Stars.{AreStarNames}
use Rattle.followed_nets.proofs.noted.star_names.Given as goal

abbrev pub invariant-loop-numbered : goal.invariant-loop-numbered
invariant-loop-numbered g l = AreStarNames (said (map numbered_view (take l.numbered-index l.statements))) l.names.items
