use Rattle.std.proofs.Common.{map}
use Rattle.place_checks.specs.IndexViews.{surroundings_view}
use Rattle.place_checks.specs.Views.{boxed_view}
use Rattle.place_checks.proofs.Oks.{always}
use Rattle.place_checks.proofs.SurroundingLemmas.{all_lines_same}
use Rattle.place_checks.proofs.place_lines.put_components.Goals as goal

pub returns-clause-lines : goal.returns-clause-lines
returns-clause-lines g c = λ s same.
    let own = all_lines_same (surroundings_view c.args.surroundings.now) s (map boxed_view c.args.components.now) same in
    always c.push_swept.result (rw own at c.in-Ok.ensures)
