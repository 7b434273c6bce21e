use Rattle.std.proofs.Common.{refl, ap, ◌∙◌}
use Rattle.lef_grammar.specs.Library.{Library, rule_named}
use Rattle.cell_library.specs.RuleViews.{rule_name, rule_view}
use Rattle.cell_library.proofs.NamedLemmas.{lent_seen}
use Rattle.cell_library.proofs.library.Library.rule.Goals as goal

pub returns : goal.returns
returns g c =
    lent_seen _ _ rule_view rule_name (λ e. refl) c.args.name.now c.get.result c.self.inside.rules c.get.ensures
    ∙ ap (λ (l : Library). rule_named l c.args.name.now) c.self.view_is
