use Rattle.std.proofs.Common.{rules, ◌≡◌, ◌∙◌, false, ap, sym}
use Rattle.design_model.specs.Order.{sorted_by_bytes}
use Rattle.edit_session.proofs.no_nets.know_no_nets.Goals as goal

pub returns-then-not-has_nets : goal.returns-then-not-has_nets
returns-then-not-has_nets g c = λ library knew design reads.
    let before = knew design reads in
    let no : c.has_nets.result ≡ false = search rules in
    record {
      statements = before.statements;
      places = before.places;
      nets = c.of.ensures ∙ ap sorted_by_bytes (c.new.ensures ∙ sym (c.has_nets.ensures library design reads no));
      measures = before.measures;
    }
