use Rattle.std.proofs.Common.{◌≡◌, ◌++◌, drop, map}
use Rattle.design_model.specs.Families.{cross_lines}
use Rattle.design_rules.specs.OverlapLines.{overlap_of}
use Rattle.place_checks.specs.Views.{swept_view}
use Rattle.place_checks.proofs.between.put_lines_across.Given as goal

abbrev pub invariant-loop-one : goal.invariant-loop-one
invariant-loop-one g l =
    l.lines ++ cross_lines overlap_of (map swept_view (drop l.one-index l.some)) (map swept_view l.others)
    ≡ l.initial.lines ++ cross_lines overlap_of (map swept_view l.some) (map swept_view l.others)
