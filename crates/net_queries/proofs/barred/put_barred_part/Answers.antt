use Rattle.std.proofs.Common.{rules, ◌∙◌, ◌≤◌, ◌++◌, ℕ, List, ap, length, map, not, sym}
use Rattle.std.specs.List.{flat_map}
use Rattle.lef_grammar.specs.Measures.{Shape}
use Rattle.connection_rules.specs.NetLines.{NetShape, routeblock_of}
use Rattle.net_lists.specs.PartCuts.{shape_view}
use Rattle.net_touches.specs.Barriers.{barrier_view, name_at}
use Rattle.net_touches.specs.ShapeViews.{net_shape}
use Rattle.net_queries.proofs.ShortSums.{all_put, each_mapped, next_put}
use Rattle.net_queries.proofs.barred.put_barred_part.Goals as goal

pub loop-shape-preserved : goal.loop-shape-preserved
loop-shape-preserved g c =
    next_put (λ s. flat_map (routeblock_of (name_at (map (λ w. w.now) c.args.names.now)) (net_shape s c.args.head.now (not c.args.part.now.is_pin))) (map barrier_view c.args.barriers.now)) c.args.part.now.shapes.now
    c.loop-shape.shape-index c.shape-item.result _ _ _ c.loop-shape-test.true c.shape-item.is c.in_ok-put_barred.ensures c.loop-shape.invariant

pub returns : goal.returns
returns g c =
    let past : length c.args.part.now.shapes.now ≤ c.loop-shape.shape-index = search rules in
    let head = c.args.head.now in
    let lines = λ (s : NetShape). flat_map (routeblock_of (name_at (map (λ w. w.now) c.args.names.now)) s) (map barrier_view c.args.barriers.now) in
    let own : Shape → NetShape = λ s. record { net = head.name.now; is_power = head.is_power; is_drawn = not c.args.part.now.is_pin; shape = s } in
    let shapes = c.args.part.now.shapes.now in
    all_put (λ (s : Shape). lines (own s)) shape_view shapes c.loop-shape.shape-index _ _ past c.loop-shape.invariant
    ∙ ap (λ (ls : List (List ℕ)). c.args.lines.now ++ ls) (sym (each_mapped lines own (map shape_view shapes)))
