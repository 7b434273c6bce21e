use Rattle.std.proofs.Common.{◌≡◌, ◌∙◌, ap, length, refl, rules, sym}
use Rattle.std.specs.Option.{option_map}
use Rattle.def_parts.specs.ClauseViews.{bytes_view}
use Rattle.entry_references.proofs.NetSteps.{rule_put}
use Rattle.entry_references.proofs.nets.push_rule_and_wires.Goals as goal

pub returns-in_ok-insert-clause-references : goal.returns-in_ok-insert-clause-references
returns-in_ok-insert-clause-references g c =
    let at : c.len-place.result ≡ length c.args.found.now.items = search rules in
    rule_put c.args.found.now.items c.push_clauses.new.found.items _ c.in_ok-noted.ensures.wires c.insert.new.self.items c.len-place.result _ c.in-Some.rule.bytes.now _ at c.in_ok-insert.ensures.items refl
    (ap (option_map bytes_view) (sym c.in-Some.is) ∙ c.in_ok-noted.ensures.rule)
