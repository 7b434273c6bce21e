use Rattle.std.proofs.Common.{◌∙◌, Option, sym, ap}
use Rattle.std.specs.Option.{option_map}
use Rattle.form_meanings.specs.Words.{◌>>=◌}
use Rattle.def_grammar.specs.Records.{Entry}
use Rattle.place_parts.specs.ComponentViews.{component_view}
use Rattle.design_names.specs.NameViews.{component_of_entry}
use Rattle.design_names.proofs.NameLemmas.{component_picked}
use Rattle.design_text.specs.DesignTexts.{design_of}
use Rattle.design_text.proofs.NamedEntries.{component_there}
use Rattle.design_text.proofs.text.DesignText.component_named.Goals as goal

pub returns-in_err-named-clause-there : goal.returns-in_err-named-clause-there
returns-in_err-named-clause-there g c =
    let design = design_of c.args.self.now in
    let name = c.args.name.now in
    component_there component_view design name c.from_residual.result
    (ap (option_map component_view) c.from_residual.ensures ∙ ap (λ (o : Option Entry). o >>= component_of_entry) c.in_err-named.ensures ∙ sym (component_picked design name))

pub returns-clause-there : goal.returns-clause-there
returns-clause-there g c =
    let design = design_of c.args.self.now in
    let name = c.args.name.now in
    component_there component_view design name c.component_of.result (c.component_of.ensures ∙ ap (λ (o : Option Entry). o >>= component_of_entry) c.in_ok-named.ensures ∙ sym (component_picked design name))
