use Rattle.std.proofs.Common.{rules, ◌≡◌, true}
use Rattle.net_touches.specs.Layers.{is_between}
use Rattle.net_touches.proofs.LayerLemmas.{next_is_lower}
use Rattle.net_touches.proofs.layers.with_layer.Goals as goal

pub returns-then-is_between : goal.returns-then-is_between
returns-then-is_between c =
    let t : is_between c.args.after c.args.next c.args.layer.0 ≡ true = search rules in
    λ layers h. next_is_lower c.args.after c.args.next layers c.args.layer t h
