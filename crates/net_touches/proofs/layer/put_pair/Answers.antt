use Rattle.std.proofs.Common.{map, ap₂, ◌++◌, ◌∙◌}
use Rattle.net_touches.specs.Barriers.{name_at}
use Rattle.net_touches.specs.Things.{lines_of_found}
use Rattle.net_touches.proofs.StepLemmas.{found}
use Rattle.net_touches.proofs.layer.put_pair.Goals as goal

pub returns : goal.returns
returns g c =
    let names = name_at (map (λ w. w.now) c.args.names.now) in
    let things = c.args.things.now in (
      c.in_ok-lines.lines,
      c.in_ok-lines.was,
      c.in_ok-put_found.ensures
          ∙ ap₂ (λ x y. c.in_ok-lines.lines ++ lines_of_found names x y) (found things c.args.i c.get.result c.get.ensures.lookup.0 c.get.ensures.lookup.1) (found things c.args.j c.get-2.result c.get-2.ensures.lookup.0 c.get-2.ensures.lookup.1),
    )
