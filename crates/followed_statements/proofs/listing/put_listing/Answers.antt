use Rattle.std.proofs.Common.{List, ◌++◌, ◌∙◌, ap, flat_map, map}
use Rattle.report_rules.specs.Diagnostics.{statement_lines}
use Rattle.def_reader.specs.StatementViews.{record_view}
use Rattle.def_reader.specs.declared.statement.Statement.{Statement}
use Rattle.design_text.specs.DesignTexts.{design_of}
use Rattle.design_text.specs.Listings.{ListsOnce}
use Rattle.followed_statements.proofs.TellLemmas.{listed_lines}
use Rattle.followed_statements.proofs.listing.put_listing.Goals as goal

pub returns-clause-lines : goal.returns-clause-lines
returns-clause-lines g c = λ done.
    let library = c.args.library.now in
    let design = design_of c.args.text.now in
    let component = c.args.component.now in
    let entries = map record_view c.in-Some.entries.items in
    let once : ListsOnce component design entries = rw (c.in-Some.is) at (c.in_ok-entries.ensures.once) in
    listed_lines library design entries component c.args.lines.now c.put_statements.new.lines once
    ((rw (c.new-checks.ensures) at (c.in_ok-put_statements.ensures.lines)) ∙ ap (λ (some : List Statement). c.args.lines.now ++ flat_map (statement_lines library design) (map record_view some)) c.deref.ensures.value)
