use Rattle.std.proofs.Common.{w64, rules}
use Rattle.std.specs.Int.RustNames.{FitsSigned}
use Rattle.std.proofs.lemmas.Int.{to_z-of_z}
use Rattle.place_checks.specs.Views.{boxed_view}
use Rattle.place_checks.proofs.FitLemmas.{near_lines}
use Rattle.place_checks.proofs.rows.put_in_rows.Goals as goal

pub returns : goal.returns
returns g c =
    let fits : FitsSigned w64 c.args.component.now.rect.y1 = search rules in
    let here = simp to_z-of_z at c.at_edge-beside.ensures in
    let lines = near_lines (boxed_view c.args.component.now) c.args.index.now.rows.items _ _ here c.at_edge.ensures in
    rw lines at c.put_by_rows.ensures
