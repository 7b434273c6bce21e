use Rattle.std.proofs.Common.{◌≡◌, ◌++◌, ◌-◌, drop, length, map}
use Rattle.cell_library.specs.LayerViews.{layer_name}
use Rattle.net_checks.proofs.layer_names.layer_names.Given as goal

abbrev pub invariant-loop-name : goal.invariant-loop-name
invariant-loop-name g l = map (λ w. w.now) l.names.items ++ map layer_name (drop (length l.names.items) l.library.layers) ≡ map layer_name l.library.layers

abbrev pub decreases-loop-name : goal.decreases-loop-name
decreases-loop-name g l = length l.library.layers - length l.names.items
