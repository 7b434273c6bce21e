use Rattle.std.proofs.Common.{ap, sym, ◌∙◌, Option}
use Rattle.std.specs.Option.{option_map}
use Rattle.form_meanings.specs.Words.{◌>>=◌}
use Rattle.def_grammar.specs.Records.{Entry}
use Rattle.design_names.specs.NameViews.{component_of_entry, lent_component}
use Rattle.design_names.proofs.NameLemmas.{component_picked}
use Rattle.design_names.proofs.names.Names.component_near.Goals as goal

pub returns-in-Some : goal.returns-in-Some
returns-in-Some g c =
    c.component_of.ensures ∙ sym (component_picked c.args.self.now c.args.name.now ∙ ap (λ (o : Option Entry). o >>= component_of_entry) c.in-Some.ensures)

pub returns-in_err-found : goal.returns-in_err-found
returns-in_err-found g c =
    ap (option_map lent_component) c.from_residual.ensures ∙ ap (λ (o : Option Entry). o >>= component_of_entry) c.in_err-found.ensures ∙ sym (component_picked c.args.self.now c.args.name.now)

pub returns : goal.returns
returns g c =
    c.component_of-2.ensures ∙ ap (λ (o : Option Entry). o >>= component_of_entry) c.in_ok-found.ensures ∙ sym (component_picked c.args.self.now c.args.name.now)
