use Rattle.std.proofs.Common.{arith}
use Rattle.shape_index.specs.Shapes.{met_count}
use Rattle.net_queries.proofs.Joins.{joined_none, same_length}
use Rattle.net_queries.proofs.Steps.{least_all, least_more, next_shape, tested_more}
use Rattle.net_queries.proofs.joining.join_part.Goals as goal

pub loop-shape-init : goal.loop-shape-init
loop-shape-init g c = record { joined = joined_none c.args.joining.classes; tests = omega arith; least = omega arith }

pub join_touched-joining-requires : goal.join_touched-joining-requires
join_touched-joining-requires g c = omega (arith, c.requires, same_length _ _ _ c.loop-shape.invariant.joined)

pub loop-shape-preserved : goal.loop-shape-preserved
loop-shape-preserved g c =
    let own = c.args.own.now in
    let i = c.loop-shape.shape-index in
    record {
      joined = next_shape c.args.first _ c.args.part own i c.shape-item.result _ _ _ c.loop-shape-test.true c.shape-item.is c.loop-shape.invariant.joined c.join_touched-joining.ensures.joined;
      tests = tested_more (λ s. g.S.ShapeSet.most c.args.shapes.now s.layer s.rect) own i c.shape-item.result _ _ _ c.loop-shape-test.true c.shape-item.is c.join_touched-joining.ensures.tests c.loop-shape.invariant.tests;
      least = least_more (λ s. met_count s.layer s.rect (g.S.ShapeSet.shapes c.args.shapes.now).entries) own i c.shape-item.result _ _ _ c.loop-shape-test.true c.shape-item.is c.join_touched-joining.ensures.least c.loop-shape.invariant.least;
    }

pub returns-clause-least : goal.returns-clause-least
returns-clause-least g c = least_all (λ s. met_count s.layer s.rect (g.S.ShapeSet.shapes c.args.shapes.now).entries) c.args.own.now c.loop-shape.shape-index _ _ c.loop-shape-test.false c.loop-shape.invariant.least
