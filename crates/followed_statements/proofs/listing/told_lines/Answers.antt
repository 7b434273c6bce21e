use Rattle.std.proofs.Common.{Some, flat_map}
use Rattle.design_rules.specs.CountLines.{count_lines}
use Rattle.report_rules.specs.Diagnostics.{statement_lines}
use Rattle.design_text.specs.DesignTexts.{design_of}
use Rattle.followed_statements.specs.Seen.{listing}
use Rattle.followed_statements.specs.Telling.{AreToldLines}
use Rattle.followed_statements.proofs.TellLemmas.{behind_headers}
use Rattle.followed_statements.proofs.listing.told_lines.Goals as goal

pub returns-then-branch : goal.returns-then-branch
returns-then-branch g c =
    let library = c.args.library.now in
    let design = design_of c.args.text.now in
    let component = c.in-Some.component.now in
    let more = flat_map (statement_lines library design) (listing component design) in
    let told : AreToldLines library design (Some component) c.put_listing.new.lines = record {
      lines =
          behind_headers c.put_listing.new.lines c.in_ok-lines.lines (count_lines design) more c.in_ok-lines.ensures
          (c.in_ok-put_listing.ensures.lines c.if-branch.true);
      no_pin = c.in_ok-put_listing.ensures.no_pin c.if-branch.true;
    } in
    rw (c.in-Some.is) told
