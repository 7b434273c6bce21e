use Rattle.std.proofs.Common.{◌≡◌, map, rules}
use Rattle.def_reader.specs.StatementViews.{record_view}
use Rattle.edit_session.proofs.report.know_statements.Goals as goal

pub drawn_nets-requires-clause-across : goal.drawn_nets-requires-clause-across
drawn_nets-requires-clause-across g c =
    let same : c.in_ok-names.names ≡ map record_view c.args.records.now = search rules in
    rw same c.requires.across

pub drawn_nets-requires-clause-upward : goal.drawn_nets-requires-clause-upward
drawn_nets-requires-clause-upward g c =
    let same : c.in_ok-names.names ≡ map record_view c.args.records.now = search rules in
    rw same c.requires.upward
