use Rattle.std.proofs.Common.{arith, map, refl}
use Rattle.lef_grammar.specs.Measures.{Shape}
use Rattle.shape_index.specs.Near.{met_shapes}
use Rattle.placed_shapes.proofs.NearPlaces.{all_least}
use Rattle.kept_nets.proofs.Touching.{all_touched, next_counted, next_touched, touching}
use Rattle.kept_nets.proofs.looks.touched_within.Goals as goal

pub loop-shape-init : goal.loop-shape-init
loop-shape-init g c = record { places = rw (c.new-places.ensures.items) (record { sums = λ w. refl }); least = omega arith; more = omega arith }

pub loop-shape-preserved : goal.loop-shape-preserved
loop-shape-preserved g c = record {
  places =
      next_touched c.args.shapes.now c.args.own.now c.loop-shape.shape-index c.shape-item.result c.loop-shape.places.items c.in_ok-more.field-0.places.items c.append.new.self.items (touching c.args.shapes.now c.args.own.now) c.loop-shape-test.true c.shape-item.is c.loop-shape.invariant.places
      c.in_ok-more.ensures.places
      c.in_ok-append.ensures.items;
  least =
      next_counted (λ (s : Shape). met_shapes s (map (λ p. p.1) c.args.shapes.now)) c.args.own.now c.loop-shape.shape-index c.shape-item.result c.loop-shape.looks.tests _ _ _ c.loop-shape-test.true c.shape-item.is
      c.in_ok-more.ensures.least c.add.ensures.all c.loop-shape.invariant.least;
  more = let step = c.add.ensures.more in omega (arith, step, c.loop-shape.invariant.more);
}

pub returns-clause-places : goal.returns-clause-places
returns-clause-places g c = all_touched c.args.shapes.now c.args.own.now c.loop-shape.shape-index c.loop-shape.places.items (touching c.args.shapes.now c.args.own.now) c.loop-shape-test.false c.loop-shape.invariant.places

pub returns-clause-least : goal.returns-clause-least
returns-clause-least g c = all_least (λ (s : Shape). met_shapes s (map (λ p. p.1) c.args.shapes.now)) c.args.own.now c.loop-shape.shape-index c.loop-shape.looks.tests _ c.loop-shape-test.false c.loop-shape.invariant.least
