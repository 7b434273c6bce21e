use Rattle.std.proofs.Common.{append_assoc, map}
use Rattle.lefdef_tokens.specs.Views.{word_view}
use Rattle.place_checks.specs.IndexViews.{surroundings_view}
use Rattle.place_checks.specs.Views.{boxed_view}
use Rattle.place_checks.proofs.SurroundingLemmas.{lines_by_regions}
use Rattle.place_checks.proofs.fences.put_at_borders.Goals as goal

pub returns : goal.returns
returns g c =
    let s = surroundings_view c.args.surroundings.now in
    let component = boxed_view c.args.component.now in
    let fences = lines_by_regions s.assignments component (map word_view c.put_regions_of.new.regions.items) s.fences c.in-Ok-put_regions_of.ensures in
    let pushed = rw (c.deref.ensures.value, c.deref-2.ensures.value) at c.put_fences.ensures in
    rw (← append_assoc, ← c.in-Ok.ensures, ← fences) pushed
