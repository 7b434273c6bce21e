use Rattle.std.proofs.Common.{◌≡◌, map, rules}
use Rattle.def_reader.specs.StatementViews.{record_view}
use Rattle.design_text.specs.DesignTexts.{text_of}
use Rattle.followed_measures.proofs.followed.reports_on.Goals as goal

pub open-requires-clause-across : goal.open-requires-clause-across
open-requires-clause-across g c =
    let design = map record_view c.in_ok-records.records.items in
    let same : c.in_ok-names.names ≡ design = search rules in
    rw same (c.lines_fit.ensures (text_of c.args.text.now) design c.in_ok-records.ensures).0

pub open-requires-clause-upward : goal.open-requires-clause-upward
open-requires-clause-upward g c =
    let design = map record_view c.in_ok-records.records.items in
    let same : c.in_ok-names.names ≡ design = search rules in
    rw same (c.lines_fit.ensures (text_of c.args.text.now) design c.in_ok-records.ensures).1
