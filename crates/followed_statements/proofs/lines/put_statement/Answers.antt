use Rattle.std.proofs.Common.{◌∙◌}
use Rattle.def_reader.specs.StatementViews.{record_view}
use Rattle.entry_rules.specs.OffLayer.{off_layer_lines_of}
use Rattle.entry_rules.specs.Unchecked.{unchecked_lines_of}
use Rattle.entry_rules.specs.Unknown.{known_by, unknown_lines_of}
use Rattle.entry_rules.specs.ViaLayers.{via_layers}
use Rattle.followed_statements.proofs.LineLemmas.{three_families}
use Rattle.followed_statements.proofs.lines.put_statement.Goals as goal

pub returns-clause-lines : goal.returns-clause-lines
returns-clause-lines g c =
    let library = c.args.checks.now.library in
    let design = c.args.checks.now.design in
    let r = record_view c.args.statement.now in
    c.in_ok-put.ensures.lines ∙ three_families c.args.lines.now (unknown_lines_of (known_by library design) r) (off_layer_lines_of (via_layers library design) r) (unchecked_lines_of r)
