use Rattle.wire_shapes.specs.PathLeft.{place_view}
use Rattle.wire_shapes.specs.PieceViews.{piece_view}
use Rattle.wire_shapes.proofs.PathSteps.{segment_made}
use Rattle.wire_shapes.proofs.path_walk.PathWalk.segment_to.Goals as goal

pub returns-clause-is : goal.returns-clause-is
returns-clause-is g c =
    let w = c.args.self.now in
    segment_made (g.R.WiringMakings.rules w.rules) (place_view w.place) c.args.to c.args.past (piece_view c.segment_between.result) _ _ _ _
    c.width-width.ensures.in_range c.past_end-default.ensures.in_range c.past_of-past_a.ensures.size c.past_of-past_b.ensures.size
    c.width-width.ensures.value c.past_end-default.ensures.value c.past_of-past_a.ensures.is c.past_of-past_b.ensures.is c.segment_between.ensures.is
