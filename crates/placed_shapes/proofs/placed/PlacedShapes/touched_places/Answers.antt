use Rattle.std.proofs.Common.{rules, ◌≤◌, arith, length, map, refl}
use Rattle.lef_grammar.specs.Measures.{Shape}
use Rattle.shape_index.specs.Near.{met_shapes, near_shapes}
use Rattle.placed_shapes.proofs.NearPlaces.{all_least, next_least, next_tested}
use Rattle.placed_shapes.proofs.TouchedLists.{all_touched, next_touched, touching}
use Rattle.placed_shapes.proofs.placed.PlacedShapes.touched_places.Goals as goal

pub loop-shape-init : goal.loop-shape-init
loop-shape-init g c = record { places = rw (c.new-places.ensures.items) (record { sums = λ w. refl }); tests = omega arith; least = omega arith }

pub loop-shape-preserved : goal.loop-shape-preserved
loop-shape-preserved g c = record {
  places =
      next_touched c.args.self.now c.args.shapes.now c.loop-shape.shape-index c.shape-item.result c.loop-shape.places.items _ (touching c.args.self.now c.args.shapes.now) c.loop-shape-test.true c.shape-item.is
      c.loop-shape.invariant.places
      c.in_ok-touched.ensures.places;
  tests =
      next_tested (λ (s : Shape). near_shapes s (map (λ p. p.1) c.args.self.now)) c.args.shapes.now c.loop-shape.shape-index c.shape-item.result c.loop-shape.tests _ _ _ c.loop-shape-test.true c.shape-item.is
      c.in_ok-touched.ensures.tests (let sum = c.saturating_add-tests.ensures in omega (arith, sum))
      c.loop-shape.invariant.tests;
  least =
      next_least (λ (s : Shape). met_shapes s (map (λ p. p.1) c.args.self.now)) c.args.shapes.now c.loop-shape.shape-index c.shape-item.result c.loop-shape.tests _ _ _ c.loop-shape-test.true c.shape-item.is
      c.in_ok-touched.ensures.least (let sum = c.saturating_add-tests.ensures in omega (arith, sum))
      c.loop-shape.invariant.least;
}

pub returns-clause-places : goal.returns-clause-places
returns-clause-places g c =
    let past : length c.args.shapes.now ≤ c.loop-shape.shape-index = search rules in
    all_touched c.args.self.now c.args.shapes.now c.loop-shape.shape-index c.loop-shape.places.items (touching c.args.self.now c.args.shapes.now) past c.loop-shape.invariant.places

pub returns-clause-tests : goal.returns-clause-tests
returns-clause-tests g c = let few = c.loop-shape.invariant.tests in omega (arith, few)

pub returns-clause-least : goal.returns-clause-least
returns-clause-least g c =
    let past : length c.args.shapes.now ≤ c.loop-shape.shape-index = search rules in
    all_least (λ (s : Shape). met_shapes s (map (λ p. p.1) c.args.self.now)) c.args.shapes.now c.loop-shape.shape-index c.loop-shape.tests _ past c.loop-shape.invariant.least
