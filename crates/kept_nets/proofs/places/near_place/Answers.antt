use Rattle.std.proofs.Common.{None, rules, arith}
use Rattle.shape_index.specs.Shapes.{is_met}
use Rattle.kept_nets.proofs.Telling.{met_some}
use Rattle.kept_nets.proofs.places.near_place.Goals as goal

pub returns-clause-counted : goal.returns-clause-counted
returns-clause-counted g c =
    let room = c.have_room.ensures.more (search (rules, c.if-not-have_room.false)) in
    met_some _ None c.for_met-found.result.0 (is_met c.in_ok-shape.shape.now.layer c.in_ok-shape.shape.now.rect) c.tiles.result.now.entries c.for_met-found.result.1 c.args.looks.now.tests c.add.new.self.tests c.for_met-found.ensures.folded c.for_met-found.ensures.least room c.add.ensures.all
