use Rattle.std.proofs.Common.{◌≡◌, ◌++◌, drop, map}
use Rattle.lefdef_tokens.specs.Views.{word_view}
use Rattle.place_checks.specs.FenceLines.{fence_lines_in}
use Rattle.place_checks.specs.PlaceViews.{fence_view}
use Rattle.place_checks.specs.Views.{boxed_view}
use Rattle.place_checks.proofs.fences.put_fences.Given as goal

abbrev pub invariant-loop-fence : goal.invariant-loop-fence
invariant-loop-fence g l =
    l.lines ++ fence_lines_in (map word_view l.regions) (boxed_view l.component) (map fence_view (drop l.fence-index l.fences))
    ≡ l.fn.lines ++ fence_lines_in (map word_view l.regions) (boxed_view l.component) (map fence_view l.fences)
