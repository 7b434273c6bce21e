use Rattle.std.proofs.Common.{sym, ◌∙◌, ◌++◌, ap, map}
use Rattle.std.proofs.lemmas.List.{append-nil}
use Rattle.place_checks.specs.PlaceViews.{placed_row_view}
use Rattle.place_checks.specs.Views.{boxed_view}
use Rattle.place_checks.proofs.FitLemmas.{kind_lines, row_lines_are}
use Rattle.place_checks.proofs.rows.put_by_rows.Goals as goal

pub returns-in-Some : goal.returns-in-Some
returns-in-Some g c =
    let component = boxed_view c.args.component.now in
    let rows = map placed_row_view (c.args.beside.now ++ c.args.elsewhere.now) in
    let kind = rw c.fit_in.ensures at c.kind_of.ensures in
    let lines = row_lines_are component rows ∙ ap (kind_lines component) (sym kind ∙ c.in-Some.is) in
    rw lines c.put.ensures.ok

pub returns-in-None : goal.returns-in-None
returns-in-None g c =
    let component = boxed_view c.args.component.now in
    let rows = map placed_row_view (c.args.beside.now ++ c.args.elsewhere.now) in
    let kind = rw c.fit_in.ensures at c.kind_of.ensures in
    let lines = row_lines_are component rows ∙ ap (kind_lines component) (sym kind ∙ c.in-None.is) in
    rw lines (sym (append-nil _))
