use Rattle.std.proofs.Common.{◌++◌, filter, flat_map, map}
use Rattle.design_model.specs.Families.{pair_lines}
use Rattle.line_laws.specs.Lines.{SameLines}
use Rattle.connection_rules.specs.NetLines.{shapes_of_net}
use Rattle.net_touches.specs.Barriers.{barrier_view, name_at}
use Rattle.net_touches.specs.Things.{all_things, lines_of_two}
use Rattle.net_touches.proofs.LayerLemmas.{is_left, layers_left}
use Rattle.net_touches.proofs.touching.touching_lines.Given as goal

abbrev pub invariant-loop-layer : goal.invariant-loop-layer
invariant-loop-layer g l =
    let all = all_things (flat_map shapes_of_net l.nets) (map barrier_view l.barriers) in
    let two = lines_of_two (name_at (map (λ w. w.now) l.names)) in
    SameLines (l.lines ++ pair_lines two (filter (is_left l.done) all)) (l.fn.lines ++ pair_lines two all)

abbrev pub decreases-loop-layer : goal.decreases-loop-layer
decreases-loop-layer g l = layers_left l.done
