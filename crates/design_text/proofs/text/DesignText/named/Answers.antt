use Rattle.std.proofs.Common.{◌∙◌, List, Option, sym, ap}
use Rattle.form_meanings.specs.Words.{◌>>=◌}
use Rattle.def_grammar.specs.Records.{Record}
use Rattle.statement_model.specs.Tokens.{Token}
use Rattle.design_text.specs.DesignTexts.{design_of}
use Rattle.design_text.proofs.NamedEntries.{entry_said, named_is}
use Rattle.design_text.proofs.text.DesignText.named.Goals as goal

pub returns-in_default : goal.returns-in_default
returns-in_default g c =
    let content = c.args.self.now in
    let design = design_of content in
    let reads = c.design_is_read.ensures.reads in
    let k = c.statements_are_known.ensures design reads in
    (
    ap (λ (o : Option (List Token × Record)). o >>= entry_said) (c.in_default.ensures.gives design reads) ∙ sym (named_is c.args.section c.args.name.now content design k))

pub returns : goal.returns
returns g c =
    let content = c.args.self.now in
    let design = design_of content in
    let reads = c.design_is_read.ensures.reads in
    let k = c.statements_are_known.ensures design reads in
    c.entry-2.ensures.gives ∙ ap (λ (o : Option (List Token × Record)). o >>= entry_said) (c.in-Some.ensures.gives design reads) ∙ sym (named_is c.args.section c.args.name.now content design k)
