use Rattle.entry_checks.specs.Definitions.{known_in}
use Rattle.entry_checks.proofs.statement_lines.StatementChecks.new.Goals as goal

pub invariant_of-result : goal.invariant_of-result
invariant_of-result g c =
    let d = g.K.Known.defined c.args.known.now in
    record { seen = c.new.ensures (known_in d); vias = c.new-2.ensures d }
