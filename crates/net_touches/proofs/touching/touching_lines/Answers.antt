use Rattle.std.proofs.Common.{flat_map, map}
use Rattle.connection_rules.specs.NetLines.{shapes_of_net}
use Rattle.net_touches.specs.Barriers.{barrier_view, name_at}
use Rattle.net_touches.specs.Things.{all_things}
use Rattle.net_touches.proofs.LayerLemmas.{all_are_left, layer_done, layers_done, next_of_all}
use Rattle.net_touches.proofs.PairLemmas.{all_lines}
use Rattle.net_touches.proofs.touching.touching_lines.Goals as goal

pub loop-layer-init : goal.loop-layer-init
loop-layer-init g c =
    all_are_left (name_at (map (λ w. w.now) c.args.names.now)) (all_things (flat_map shapes_of_net c.args.nets.now) (map barrier_view c.args.barriers.now)) c.args.lines

pub loop-layer-preserved : goal.loop-layer-preserved
loop-layer-preserved g c =
    let shapes = flat_map shapes_of_net c.args.nets.now in
    layer_done (name_at (map (λ w. w.now) c.args.names.now)) (all_things shapes (map barrier_view c.args.barriers.now)) c.loop-layer.done c.loop-layer.lines _ c.in-Some.layer c.in_ok-lines.lines
    (next_of_all c.loop-layer.done c.layer_above.result _ c.shapes.result.now shapes c.args.barriers.now c.shapes.ensures c.layer_above.ensures c.in-Some.is)
    c.in_ok-lines.ensures c.loop-layer.invariant

pub returns : goal.returns
returns g c =
    let names = name_at (map (λ w. w.now) c.args.names.now) in
    let shapes = flat_map shapes_of_net c.args.nets.now in
    let barred = map barrier_view c.args.barriers.now in
    all_lines names c.args.lines c.loop-layer.lines shapes barred
    (layers_done names (all_things shapes barred) c.loop-layer.done c.loop-layer.lines _
    (next_of_all c.loop-layer.done c.layer_above.result _ c.shapes.result.now shapes c.args.barriers.now c.shapes.ensures c.layer_above.ensures c.in_default.is)
    c.loop-layer.invariant)
