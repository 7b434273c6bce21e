use Rattle.std.proofs.Common.{◌≡◌, sym, ap, ◌∙◌, rules, map}
use Rattle.std.specs.Option.{option_map}
use Rattle.std.specs.Str.{bytes_eq}
use Rattle.std.specs.Prelude.{false, true, ◌==◌}
use Rattle.design_model.specs.Views.{rectangle_of}
use Rattle.net_touches.specs.Barriers.{name_at}
use Rattle.net_touches.specs.ShapeViews.{shape_view}
use Rattle.net_touches.proofs.LineLemmas.{the_short}
use Rattle.net_touches.proofs.line.put_short.Goals as goal

pub returns : goal.returns
returns g c =
    let a = shape_view c.args.first.now in
    let b = shape_view c.args.second.now in
    let same : (a.shape.layer == b.shape.layer) ≡ true = search rules in
    let other : bytes_eq a.net b.net ≡ false = search rules in
    let share = sym c.common.ensures ∙ ap (option_map rectangle_of) c.in-Some.is in
    rw (the_short (name_at (map (λ w. w.now) c.args.names.now)) a b (rectangle_of c.in-Some.shared) same other share) (search rules)
