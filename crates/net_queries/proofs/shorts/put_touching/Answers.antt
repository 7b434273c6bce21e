use Rattle.std.proofs.Common.{map, rules}
use Rattle.connection_rules.specs.NetLines.{short_of}
use Rattle.net_touches.specs.Barriers.{name_at}
use Rattle.net_touches.specs.ShapeViews.{shape_view}
use Rattle.net_queries.specs.OwnedShapes.{lines_of}
use Rattle.net_queries.proofs.ShortSums.{added, all_added, touching}
use Rattle.net_queries.proofs.shorts.put_touching.Goals as goal

pub returns-clause-lines : goal.returns-clause-lines
returns-clause-lines g c =
    let name_of = name_at (map (λ w. w.now) c.args.names.now) in
    let own = shape_view c.args.shape.now in
    let owner = g.O.PartOwners.owner c.args.owners.now in
    let run = c.for_met-found.ensures.folded in
    let made = added _ (λ e. lines_of (short_of name_of own) owner e.1) (λ before e after k. search rules) run.0 _ _ run.2 in
    touching owner name_of own _ run.0 run.1 c.args.lines c.in_ok-lines.lines (all_added c.args.lines _ _ _ c.in_ok-lines.was made)
