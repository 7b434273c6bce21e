use Rattle.std.proofs.Common.{◌≡◌, ◌++◌, drop, map}
use Rattle.design_model.specs.Families.{lines_with}
use Rattle.design_rules.specs.OverlapLines.{overlap_of}
use Rattle.place_checks.specs.Views.{boxed_view}
use Rattle.place_checks.proofs.overlap.put_overlaps_with.Given as goal

abbrev pub invariant-loop-other : goal.invariant-loop-other
invariant-loop-other g l =
    l.lines ++ lines_with overlap_of (boxed_view l.first) (map boxed_view (drop l.other-index l.others))
    ≡ l.initial.lines ++ lines_with overlap_of (boxed_view l.first) (map boxed_view l.others)
