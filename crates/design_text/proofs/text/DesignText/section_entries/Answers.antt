use Rattle.std.proofs.Common.{◌∙◌, sym, ap, arith}
use Rattle.std.specs.List.{zip}
use Rattle.design_text.specs.DesignTexts.{Content, design_of, numbers_of, text_of}
use Rattle.design_text.proofs.EntryLists.{counted, few_in_text}
use Rattle.design_text.proofs.FoundStatements.{many_are}
use Rattle.design_text.proofs.text.DesignText.section_entries.Goals as goal

pub returns-clause-count : goal.returns-clause-count
returns-clause-count g c =
    let content = c.args.self.now in
    let design = design_of content in
    let k = c.statements_are_known.ensures design c.design_is_read.ensures.reads in
    let tables = rw (ap (λ (v : Content). v.names) (sym c.self.view_is)) at k.tables in
    c.entries_in.ensures (zip (numbers_of content) design) tables ∙ counted c.args.section (numbers_of content) design (many_are content design k)

pub returns-clause-few : goal.returns-clause-few
returns-clause-few g c =
    let content = c.args.self.now in
    let design = design_of content in
    let k = c.statements_are_known.ensures design c.design_is_read.ensures.reads in
    let tables = rw (ap (λ (v : Content). v.names) (sym c.self.view_is)) at k.tables in
    let all = c.entries_in.ensures (zip (numbers_of content) design) tables ∙ counted c.args.section (numbers_of content) design (many_are content design k) in
    let few = few_in_text c.args.section (text_of content) design k.said in
    let fits = c.text_reads.ensures.fits in
    omega (arith, all, few, fits)
