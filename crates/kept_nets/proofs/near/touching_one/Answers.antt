use Rattle.std.proofs.Common.{rules, arith}
use Rattle.shape_index.specs.Shapes.{is_met}
use Rattle.kept_nets.proofs.Telling.{met_some}
use Rattle.kept_nets.proofs.near.touching_one.Goals as goal

pub returns-clause-counted : goal.returns-clause-counted
returns-clause-counted g c =
    let room = c.have_room.ensures.more (search (rules, c.if-not-have_room.false)) in
    met_some _ c.args.other c.for_met-pin.result.0 (is_met c.args.own.now.layer c.in-Some-seen.rect) c.tiles.result.now.entries c.for_met-pin.result.1 c.args.looks.now.tests c.add.new.self.tests c.for_met-pin.ensures.folded c.for_met-pin.ensures.least room c.add.ensures.all
