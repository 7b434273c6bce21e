use Rattle.std.proofs.Common.{ap, sym, ◌∙◌, Option}
use Rattle.std.specs.Option.{option_map}
use Rattle.form_meanings.specs.Words.{◌>>=◌}
use Rattle.def_grammar.specs.Records.{Entry}
use Rattle.design_names.specs.NameViews.{component_of_entry, lent_component}
use Rattle.design_names.proofs.NameLemmas.{component_picked, component_there}
use Rattle.design_names.proofs.names.Names.component.Goals as goal

pub returns-in_err-entry-clause-there : goal.returns-in_err-entry-clause-there
returns-in_err-entry-clause-there g c =
    component_there c.args.self.now c.args.name.now c.from_residual.result
    (ap (option_map lent_component) c.from_residual.ensures ∙ ap (λ (o : Option Entry). o >>= component_of_entry) c.in_err-entry.ensures ∙ sym (component_picked c.args.self.now c.args.name.now))

pub returns-clause-there : goal.returns-clause-there
returns-clause-there g c =
    component_there c.args.self.now c.args.name.now c.component_of.result
    (c.component_of.ensures ∙ ap (λ (o : Option Entry). o >>= component_of_entry) c.in_ok-entry.ensures ∙ sym (component_picked c.args.self.now c.args.name.now))
