use Rattle.std.proofs.Common.{◌≡◌, ◌++◌, drop, flat_map, map}
use Rattle.design_model.specs.Views.{rectangle_of}
use Rattle.design_rules.specs.PlaceLines.{blocked_of}
use Rattle.place_checks.specs.Views.{boxed_view}
use Rattle.place_checks.proofs.blocked.put_blocked_by.Given as goal

abbrev pub invariant-loop-rect : goal.invariant-loop-rect
invariant-loop-rect g l =
    l.lines ++ flat_map (blocked_of (boxed_view l.component)) (map rectangle_of (drop l.rect-index l.keep_outs))
    ≡ l.initial.lines ++ flat_map (blocked_of (boxed_view l.component)) (map rectangle_of l.keep_outs)
