use Rattle.std.proofs.Common.{◌∙◌}
use Rattle.shape_index.specs.Shapes.{met_count}
use Rattle.net_queries.proofs.Joins.{same_length}
use Rattle.net_queries.proofs.Steps.{counted_on, least_on, least_past, next_part, nothing_left, tested_on}
use Rattle.net_queries.proofs.joining.join_parts.Goals as goal

pub loop-part-preserved : goal.loop-part-preserved
loop-part-preserved g c =
    let ps = c.args.net.now.parts.now in
    let i = c.loop-part.part in
    let left = c.loop-part.left.now in
    let own = c.split_at.result.0.now in
    let later = c.split_at.result.1.now in
    let before = c.loop-part.invariant in
    record {
      whole = counted_on ps i _ left later c.loop-part-test.true c.split_at.ensures.back before.whole;
      size = same_length _ _ _ c.join_part-joining.ensures.joined ∙ before.size;
      rest = λ last k. before.rest last (next_part c.args.first _ _ ps i _ left own later _ _ last c.loop-part-test.true c.split_at.ensures.front c.split_at.ensures.back before.size c.join_part-joining.ensures.joined k);
      tests = tested_on (λ s. g.S.ShapeSet.most c.args.shapes.now s.layer s.rect) left own later _ _ _ _ c.split_at.ensures.front c.split_at.ensures.back c.join_part-joining.ensures.tests before.tests;
      least = least_on (λ s. met_count s.layer s.rect (g.S.ShapeSet.shapes c.args.shapes.now).entries) left own later _ _ _ _ c.split_at.ensures.front c.split_at.ensures.back c.join_part-joining.ensures.least before.least;
    }

pub returns-clause-joined : goal.returns-clause-joined
returns-clause-joined g c = c.loop-part.invariant.rest _ (nothing_left _ _ _ c.loop-part.part c.args.net.now.parts.now c.loop-part.left.now c.loop-part-test.false)

pub returns-clause-least : goal.returns-clause-least
returns-clause-least g c =
    least_past (λ s. met_count s.layer s.rect (g.S.ShapeSet.shapes c.args.shapes.now).entries) c.args.net.now.parts.now c.loop-part.part c.loop-part.left.now _ _ c.loop-part-test.false c.loop-part.invariant.whole c.loop-part.invariant.least
