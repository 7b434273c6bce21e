use Rattle.std.proofs.Common.{◌≡◌, ◌∙◌, is_some, rules, sym, ap}
use Rattle.std.specs.List.{zip}
use Rattle.design_text.specs.DesignTexts.{Content, design_of, numbers_of}
use Rattle.design_text.proofs.NamedEntries.{has_is}
use Rattle.design_text.proofs.text.DesignText.has.Goals as goal

pub returns : goal.returns
returns g c =
    let content = c.args.self.now in
    let design = design_of content in
    let k = c.statements_are_known.ensures design c.design_is_read.ensures.reads in
    let tables = rw (ap (λ (v : Content). v.names) (sym c.self.view_is)) at k.tables in
    let there : c.is_some.result ≡ is_some c.find.result = search rules in
    there ∙ has_is c.args.section c.args.name.now content design k c.find.result (c.find.ensures (zip (numbers_of content) design) tables)
