use Rattle.std.proofs.Common.{rules, map, ◌≤◌, arith, length, refl}
use Rattle.lef_grammar.specs.Measures.{Shape}
use Rattle.connection_rules.specs.NetLines.{short_of}
use Rattle.net_touches.specs.Barriers.{name_at}
use Rattle.shape_index.specs.Near.{met_shapes, near_shapes}
use Rattle.placed_shapes.proofs.NearPlaces.{all_least, next_least, next_tested}
use Rattle.named_shapes.proofs.ShortSteps.{all_crossed, next_crossed}
use Rattle.named_shapes.proofs.shapes.NamedShapes.put_shorts.Goals as goal

pub loop-shape-init : goal.loop-shape-init
loop-shape-init g c = record { lines = record { often = λ q. refl }; tests = omega arith; least = omega arith }

pub loop-shape-preserved : goal.loop-shape-preserved
loop-shape-preserved g c = record {
  lines =
      next_crossed (short_of (name_at (map (λ w. w.now) c.args.layers.now))) c.args.net.now c.args.self.now c.args.shapes.now c.loop-shape.shape-index c.shape-item.result c.loop-shape.lines _ _ c.loop-shape-test.true c.shape-item.is
      c.in_ok-checked.ensures.lines
      c.loop-shape.invariant.lines;
  tests =
      next_tested (λ (s : Shape). near_shapes s (map (λ n. n.shape) c.args.self.now)) c.args.shapes.now c.loop-shape.shape-index c.shape-item.result c.loop-shape.tests _ _ _ c.loop-shape-test.true c.shape-item.is
      c.in_ok-checked.ensures.tests (let sum = c.saturating_add-tests.ensures in omega (arith, sum))
      c.loop-shape.invariant.tests;
  least =
      next_least (λ (s : Shape). met_shapes s (map (λ n. n.shape) c.args.self.now)) c.args.shapes.now c.loop-shape.shape-index c.shape-item.result c.loop-shape.tests _ _ _ c.loop-shape-test.true c.shape-item.is
      c.in_ok-checked.ensures.least (let sum = c.saturating_add-tests.ensures in omega (arith, sum))
      c.loop-shape.invariant.least;
}

pub returns-clause-lines : goal.returns-clause-lines
returns-clause-lines g c =
    let past : length c.args.shapes.now ≤ c.loop-shape.shape-index = search rules in
    all_crossed (short_of (name_at (map (λ w. w.now) c.args.layers.now))) c.args.net.now c.args.self.now c.args.shapes.now c.loop-shape.shape-index c.loop-shape.lines _ past c.loop-shape.invariant.lines

pub returns-clause-tests : goal.returns-clause-tests
returns-clause-tests g c = let few = c.loop-shape.invariant.tests in omega (arith, few)

pub returns-clause-least : goal.returns-clause-least
returns-clause-least g c =
    let past : length c.args.shapes.now ≤ c.loop-shape.shape-index = search rules in
    all_least (λ (s : Shape). met_shapes s (map (λ n. n.shape) c.args.self.now)) c.args.shapes.now c.loop-shape.shape-index c.loop-shape.tests _ past c.loop-shape.invariant.least
