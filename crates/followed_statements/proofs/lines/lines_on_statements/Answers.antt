use Rattle.std.proofs.Common.{flat_map}
use Rattle.design_rules.specs.CountLines.{count_lines}
use Rattle.entry_rules.specs.Unchecked.{unchecked_in_library}
use Rattle.report_rules.specs.Diagnostics.{statement_lines}
use Rattle.design_text.specs.DesignTexts.{design_of}
use Rattle.followed_statements.proofs.AnewLemmas.{in_parts}
use Rattle.followed_statements.proofs.lines.lines_on_statements.Goals as goal

pub returns : goal.returns
returns g c =
    let library = c.args.library.now in
    let design = design_of c.args.text.now in
    in_parts (count_lines design) _ (flat_map (statement_lines library design) design) (unchecked_in_library library) _ _ c.in_ok-lines.ensures c.in_ok-put_all_statements.ensures
    c.in_ok-unchecked_in_library.ensures
