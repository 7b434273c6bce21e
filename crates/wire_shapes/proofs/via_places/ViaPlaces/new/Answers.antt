use Rattle.wire_shapes.proofs.Places.{all_left}
use Rattle.wire_shapes.proofs.Reach.{all_in_reach}
use Rattle.wire_shapes.proofs.via_places.ViaPlaces.new.Goals as goal

pub returns-clause-is : goal.returns-clause-is
returns-clause-is c =
    all_left c.args.via.now.rows c.args.via.now.columns c.args.via.now.step c.step_across.result c.step_up.result c.args.at c.step_across.ensures c.step_up.ensures

pub returns-clause-reach : goal.returns-clause-reach
returns-clause-reach c =
    all_in_reach c.args.via.now.columns c.args.via.now.rows c.args.via.now.step c.args.at c.step_across.result c.step_up.result c.step_across.ensures c.step_up.ensures c.requires.in_range c.requires.step c.requires.at
