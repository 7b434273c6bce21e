use Rattle.connection_rules.specs.NetLines.{net_lines}
use Rattle.design_rules.specs.Boxes.{scale}
use Rattle.report_rules.specs.Diagnostics.{all_lines}
use Rattle.staying_laws.specs.Staying.{lines_on_places, lines_on_statements}
use Rattle.edit_session.proofs.ReportLemmas.{kept_are, parts_in_order}
use Rattle.edit_session.proofs.known_lines.KnownLines.lent.Goals as goal

pub returns-clause-lines : goal.returns-clause-lines
returns-clause-lines g c = λ library design known.
    let s = lines_on_statements library design in
    let p = lines_on_places library design in
    let n = net_lines library design (scale design) in
    let first = kept_are _ _ s c.kept_of-statements.ensures known.statements in
    let second = kept_are _ _ p c.kept_of-places.ensures known.places in
    let third = kept_are _ _ n c.kept_of-nets.ensures known.nets in
    rw (parts_in_order c.sorting_is_by_lines.ensures c.same_lines_sort_alike.ensures _ _ _ s p n (all_lines library design) first second third (c.parts_are_all.ensures library design)) at c.all_merged.ensures.lines
